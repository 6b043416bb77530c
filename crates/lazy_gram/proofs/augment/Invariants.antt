-- `lazy_gram::augment` meets its contract. The invariant: the first j rows of the lower triangle are augmented, and all else is as it was.
-- Assumes nothing.
use Prim.Native.Nat.{◌+◌, ◌*◌}
use Rattle.gram_panels.specs.Panels.{low}
use Rattle.gram_panels.proofs.Mats.{Striped}
use Rattle.lazy_gram.specs.Nest.{raised_at}
use Rattle.lazy_gram.proofs.augment.Given as goal

abbrev pub invariant-loop-j : goal.invariant-loop-j
invariant-loop-j l = Striped l.initial.s l.ga l.p low (λ a. raised_at l.initial.s (l.ga + a * l.p) l.gg l.pp a) l.p l.s l.j
