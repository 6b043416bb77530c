-- `lazy_columns::augment` meets its contract. The invariant: the first j sums are augmented, and all else is as it was.
-- Assumes nothing.
use Rattle.numbers.specs.Ops.{◌⊕◌, ◌⊗◌}
use Rattle.arrays.specs.Part.{part}
use Rattle.arrays.specs.Sums.{◌!◌}
use Rattle.arrays.proofs.Turns.{Made}
use Rattle.lazy_columns.proofs.augment.Given as goal

abbrev pub invariant-loop-j : goal.invariant-loop-j
invariant-loop-j l = Made l.initial.s l.out l.p (λ k. l.t.gamma ⊗ part l.initial.s l.out l.p ! k ⊕ l.t.padding ⊗ part l.initial.s l.tail l.p ! k) l.s l.j
