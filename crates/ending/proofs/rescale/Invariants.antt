-- `ending::rescale` meets its contract. The invariant: the first i weights are rescaled, and the others are as they were. Assumes nothing.
use Rattle.numbers.specs.Ops.{◌⊗◌, ◌⊘◌}
use Rattle.arrays.specs.Part.{part}
use Rattle.arrays.specs.Sums.{◌!◌}
use Rattle.arrays.proofs.Turns.{Made}
use Rattle.ending.proofs.rescale.Given as goal

abbrev pub invariant-loop-i : goal.invariant-loop-i
invariant-loop-i l = Made l.initial.w 0 l.p (λ k. l.gamma ⊗ l.initial.w ! k ⊘ part l.s l.sc l.p ! k) l.w l.i
