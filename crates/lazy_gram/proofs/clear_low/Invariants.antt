-- `lazy_gram::clear_low` meets its contract. The invariant: the first j rows of the lower triangle are +0, and all else is as it was.
-- Assumes nothing.
use Rattle.gram_panels.specs.Panels.{low}
use Rattle.gram_panels.proofs.Mats.{Striped}
use Rattle.lazy_gram.specs.Nest.{nones}
use Rattle.lazy_gram.proofs.clear_low.Given as goal

abbrev pub invariant-loop-j : goal.invariant-loop-j
invariant-loop-j l = Striped l.initial.s l.ga l.p low nones l.p l.s l.j
