-- `trial::take` meets its contract. Assumes nothing.
use Rattle.layout.specs.Slots.{words}
use Rattle.layout.proofs.Slots.{start}
use Rattle.trial.proofs.Stores.{taken}
use Rattle.trial.proofs.take.Goals as goal

pub returns : goal.returns
unfolding words
returns c = taken c.args.fit.now.laid (start c.args.fit.now.sizes c.args.s.now c.requires) c.copy.ensures c.copy-2.ensures c.copy-3.ensures
