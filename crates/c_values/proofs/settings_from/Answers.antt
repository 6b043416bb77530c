-- `c_values::settings_from` meets its contract. Assumes nothing.
use Rattle.c_values.specs.Settings.{settings_from}
use Rattle.c_values.proofs.settings_from.Goals as goal

pub returns : goal.returns
unfolding settings_from
returns c = rw c.floats_at-f.ensures
