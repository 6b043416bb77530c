-- `settings::terms_of` meets its contract: the calls' results, put in one after the other. Assumes nothing.
use Rattle.settings.specs.Settings.{l1_of, l2_of, terms_of}
use Rattle.settings.proofs.terms_of.Goals as goal

pub returns : goal.returns
unfolding l1_of l2_of terms_of
returns c = rw (c.maximum.ensures, c.root.ensures, c.gamma-gamma.ensures, c.float_of-rows.ensures)
