-- `lazy_rows::scaled` meets its contract. The invariant: the first elements, up to y's, are multiplied. Assumes nothing.
use Rattle.numbers.specs.Ops.{◌⊗◌}
use Rattle.arrays.specs.Sums.{◌!◌}
use Rattle.arrays.proofs.Turns.{Made}
use Rattle.lazy_rows.proofs.scaled.Given as goal

abbrev pub invariant-loop-y : goal.invariant-loop-y
invariant-loop-y l = Made l.fn.x 0 8 (λ k. l.fn.x ! k ⊗ l.gamma) l.y-items l.y-index
