-- `gram_panels::mirror` meets its contract. The invariant: the first k rows are mirrored to the right of the diagonal, and all else is as it was.
-- Assumes nothing.
use Prim.Native.Nat.{◌+◌}
use Rattle.gram_panels.proofs.Mats.{Striped}
use Rattle.gram_panels.specs.Panels.{right_of, from_below}
use Rattle.gram_panels.proofs.mirror.Given as goal

abbrev pub invariant-loop-k : goal.invariant-loop-k
invariant-loop-k l = Striped l.initial.s (l.ga + 1) (l.p + 1) (right_of l.p) (from_below l.initial.s l.ga l.p) l.p l.s l.k
