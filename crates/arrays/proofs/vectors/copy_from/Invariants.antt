-- `arrays::vectors::copy_from` meets its contract. The invariant: the first i elements of t's part are copied, and all else is as it was. Assumes nothing.
use Rattle.arrays.specs.Part.{part}
use Rattle.arrays.specs.Sums.{◌!◌}
use Rattle.arrays.proofs.Turns.{Made}
use Rattle.arrays.proofs.vectors.copy_from.Given as goal

abbrev pub invariant-loop-i : goal.invariant-loop-i
invariant-loop-i l = Made l.initial.s l.out l.n (λ k. part l.t l.a l.n ! k) l.s l.i
