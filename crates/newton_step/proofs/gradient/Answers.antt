-- `newton_step::gradient` meets its contract. Assumes nothing.
use Rattle.layout.specs.Slots.{words}
use Rattle.layout.proofs.Slots.{start}
use Rattle.newton_step.proofs.Stores.{gradient-left}
use Rattle.newton_step.proofs.gradient.Goals as goal

pub returns : goal.returns
unfolding words
returns c =
    gradient-left c.args.fit.now.laid (start c.args.fit.now.sizes c.args.s.now c.requires.room) c.args.fit.now.terms c.args.fit.now.matrix.now c.args.t
    c.gradphi.ensures c.g1.ensures c.negated.ensures c.negated_g2.ensures
