-- `gram_panels::mirror_row` meets its contract. The invariant: the first b elements of the column are copied into the row, and all else is as it was.
-- Assumes nothing.
use Rattle.arrays.proofs.Turns.{Made}
use Rattle.gram_panels.specs.Panels.{across}
use Rattle.gram_panels.proofs.mirror_row.Given as goal

abbrev pub invariant-loop-b : goal.invariant-loop-b
invariant-loop-b l = Made l.initial.s l.to l.n (across l.initial.s l.from l.p) l.s l.b
