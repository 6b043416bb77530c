-- `settings::gamma` meets its contract. Assumes nothing.
use Rattle.settings.specs.Settings.{gamma_of}
use Rattle.settings.proofs.gamma.Goals as goal

pub returns : goal.returns
unfolding gamma_of
returns c = rw c.root.ensures
