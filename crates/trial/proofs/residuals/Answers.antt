-- `trial::residuals` meets its contract. Assumes nothing.
use Rattle.layout.specs.Slots.{words}
use Rattle.layout.proofs.Slots.{start}
use Rattle.design_products.proofs.Lengths.{held_of}
use Rattle.trial.proofs.Stores.{renewed}
use Rattle.trial.proofs.residuals.Goals as goal

pub returns : goal.returns
unfolding words
returns c = renewed (held_of c.args.fit.now c.requires.suits c.requires.room) (start c.args.fit.now.sizes c.args.s.now c.requires.room) c.args.fit.now.terms c.matvec.ensures c.sub.ensures
