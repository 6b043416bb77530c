-- `trial::move_on` meets its contract. Assumes nothing.
use Rattle.layout.specs.Slots.{words}
use Rattle.layout.proofs.Slots.{start}
use Rattle.trial.proofs.Stores.{moved}
use Rattle.trial.proofs.move_on.Goals as goal

pub returns : goal.returns
unfolding words
returns c =
    moved c.args.fit.now.laid (start c.args.fit.now.sizes c.args.s.now c.requires) c.args.step
    c.add_scaled.ensures c.add_scaled-2.ensures c.faces.ensures
