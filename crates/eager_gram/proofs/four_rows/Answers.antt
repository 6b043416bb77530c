use Rattle.gram_panels.proofs.Mats.{striped-none}
use Rattle.eager_gram.proofs.Added.{entry-row-more}
use Rattle.eager_gram.proofs.four_rows.Goals as goal

pub loop-r-init : goal.loop-r-init
loop-r-init c = striped-none _ _ _ _ _ _

pub loop-r-preserved : goal.loop-r-preserved
loop-r-preserved c = entry-row-more c.requires c.loop-r-test.true c.loop-r.invariant _ c.add_four.ensures
