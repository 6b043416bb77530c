-- `newton_step::preconditioner` meets its contract. Assumes nothing.
use Rattle.layout.specs.Slots.{words}
use Rattle.layout.proofs.Slots.{start}
use Rattle.newton_step.proofs.Stores.{preconditioner-left}
use Rattle.newton_step.proofs.preconditioner.Goals as goal

pub returns : goal.returns
unfolding words
returns c = preconditioner-left c.args.fit.now.laid (start c.args.fit.now.sizes c.args.s.now c.requires) c.prb.ensures c.prs.ensures
