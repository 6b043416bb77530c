-- `gram_panels::fill_panel` meets its contract. The invariant: the first i rows of the panel are written, and all else is as it was.
-- Assumes nothing.
use Rattle.gram_panels.specs.Panels.{same, panel_at}
use Rattle.gram_panels.proofs.Mats.{Striped}
use Rattle.gram_panels.proofs.fill_panel.Given as goal

abbrev pub invariant-loop-i : goal.invariant-loop-i
invariant-loop-i l = Striped l.initial.s l.to l.cc (same l.nc) (panel_at l.m l.b.p l.initial.s l.ce l.sc l.b.row l.col) l.b.nr l.s l.i
