-- `eager_gram::four_rows` meets its contract. The invariant: the first r rows of the lower triangle have four products more, and all else is as it was.
-- Assumes nothing.
use Rattle.gram_panels.specs.Panels.{low, carry}
use Rattle.gram_panels.proofs.Mats.{Striped}
use Rattle.eager_gram.proofs.four_rows.Given as goal

abbrev pub invariant-loop-r : goal.invariant-loop-r
invariant-loop-r l = Striped l.initial.s l.g l.p low (carry l.initial.s l.g l.p l.at l.at l.p 4) l.p l.s l.r
