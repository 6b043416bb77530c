-- `arrays::vectors::add_scaled_from` meets its contract. The invariant: the first i elements plus x times t's are written, and all else is as it was.
-- Assumes nothing.
use Rattle.numbers.specs.Ops.{◌⊕◌, ◌⊗◌}
use Rattle.arrays.specs.Part.{part}
use Rattle.arrays.specs.Sums.{◌!◌}
use Rattle.arrays.proofs.Turns.{Made}
use Rattle.arrays.proofs.vectors.add_scaled_from.Given as goal

abbrev pub invariant-loop-i : goal.invariant-loop-i
invariant-loop-i l = Made l.initial.s l.out l.n (λ k. part l.initial.s l.out l.n ! k ⊕ l.x ⊗ part l.t l.a l.n ! k) l.s l.i
