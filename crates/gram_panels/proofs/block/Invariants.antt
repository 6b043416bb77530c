-- `gram_panels::block` meets its contract. The invariant: the first `a` entry rows have the sums after nr rows of the panels, and all else is as it was.
-- Assumes nothing.
use Rattle.gram_panels.specs.Panels.{wid, carry}
use Rattle.gram_panels.proofs.Mats.{Striped}
use Rattle.gram_panels.proofs.block.Given as goal

abbrev pub invariant-loop-a : goal.invariant-loop-a
invariant-loop-a l = Striped l.initial.s l.g l.p (wid l.nk l.d) (carry l.initial.s l.g l.p l.pair.left l.pair.right l.pair.cc l.pair.nr) l.nj l.s l.a
