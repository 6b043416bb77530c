-- `lazy_columns::add_row` meets its contract. The invariant: the first j sums have the row's product added, and all else is as it was.
-- Assumes nothing.
use Rattle.numbers.specs.Ops.{◌⊕◌, ◌⊗◌}
use Rattle.arrays.specs.Part.{part}
use Rattle.arrays.specs.Sums.{◌!◌}
use Rattle.arrays.proofs.Turns.{Made}
use Rattle.lazy_normalization.proofs.Entries.{row_of}
use Rattle.lazy_columns.proofs.add_row.Given as goal

abbrev pub invariant-loop-j : goal.invariant-loop-j
invariant-loop-j l = Made l.initial.s l.out l.p (λ k. part l.initial.s l.out l.p ! k ⊕ row_of l.m l.initial.s l.p l.ce l.sc l.rc l.i k ⊗ l.x) l.s l.j
