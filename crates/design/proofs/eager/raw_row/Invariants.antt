-- `design::eager::raw_row` meets its contract. The invariant: the first j entries of the row, times gamma, are written, and all else is as it was.
-- Assumes nothing.
use mathlib.Core.Bool.{false}
use Rattle.arrays.proofs.Turns.{Made}
use Rattle.design.specs.Rows.{row_of}
use Rattle.design.proofs.eager.raw_row.Given as goal

abbrev pub invariant-loop-j : goal.invariant-loop-j
invariant-loop-j l = Made l.initial.s l.out l.p (row_of false l.gamma l.m l.at l.initial.s l.initial.s) l.s l.j
