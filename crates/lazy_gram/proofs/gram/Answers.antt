-- `lazy_gram::gram` meets its contract: the last `fill` covers just the panels, where `fill_gram` promises nothing. Assumes nothing.
use Rattle.arrays.proofs.Part.{length-put}
use Rattle.lazy_gram.proofs.Whole.{lent_rows, lent-order, lent-fill, lent-done}
use Rattle.lazy_gram.proofs.gram.Goals as goal

pub fill_gram-requires : goal.fill_gram-requires
fill_gram-requires c = lent_rows c.requires

pub overflow_sub-l : goal.overflow_sub-l
overflow_sub-l c = lent-order c.requires

pub fill-requires : goal.fill-requires
fill-requires c = lent-fill c.requires c.fill_gram.ensures (length-put _ _ _)

pub returns : goal.returns
returns c = lent-done c.requires c.args.t _ _ c.fill_gram.ensures c.fill.ensures
