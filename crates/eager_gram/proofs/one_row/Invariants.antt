-- `eager_gram::one_row` meets its contract. The invariant: the first r rows of the lower triangle have one product more, and all else is as it was.
-- Assumes nothing.
use Rattle.gram_panels.specs.Panels.{low, carry}
use Rattle.gram_panels.proofs.Mats.{Striped}
use Rattle.eager_gram.proofs.one_row.Given as goal

abbrev pub invariant-loop-r : goal.invariant-loop-r
invariant-loop-r l = Striped l.initial.s l.g l.p low (carry l.initial.s l.g l.p l.at l.at l.p 1) l.p l.s l.r
