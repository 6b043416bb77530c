-- `design::eager::normal_row` meets its contract. The invariant: the first j entries, normalised and times gamma, are written, and all else is as it was.
-- Assumes nothing.
use mathlib.Core.Bool.{true}
use Rattle.arrays.specs.Part.{part}
use Rattle.arrays.proofs.Turns.{Made}
use Rattle.design.specs.Rows.{row_of}
use Rattle.design.proofs.eager.normal_row.Given as goal

abbrev pub invariant-loop-j : goal.invariant-loop-j
invariant-loop-j l = Made l.initial.s l.out l.p (row_of true l.gamma l.m l.at (part l.initial.s l.ce l.p) (part l.initial.s l.sc l.p)) l.s l.j
