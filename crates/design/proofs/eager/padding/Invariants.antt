-- `design::eager::padding` meets its contract. The invariant: the first r rows of the padding are written, and all else is as it was.
-- Assumes nothing.
use Rattle.design.specs.Rows.{diagonal_at}
use Rattle.design.proofs.Grids.{Written}
use Rattle.design.proofs.eager.padding.Given as goal

abbrev pub invariant-loop-r : goal.invariant-loop-r
invariant-loop-r l = Written l.initial.s l.out l.p l.p (diagonal_at l.x) l.s l.r
