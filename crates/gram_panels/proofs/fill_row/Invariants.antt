-- `gram_panels::fill_row` meets its contract. The invariant: the first b entries of the row, normalised, are written, and all else is as it was.
-- Assumes nothing.
use Rattle.arrays.proofs.Turns.{Made}
use Rattle.gram_panels.specs.Panels.{norm_at}
use Rattle.gram_panels.proofs.fill_row.Given as goal

abbrev pub invariant-loop-b : goal.invariant-loop-b
invariant-loop-b l = Made l.initial.s l.to l.n (norm_at l.m l.at l.initial.s l.ce l.sc) l.s l.b
