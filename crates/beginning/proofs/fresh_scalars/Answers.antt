-- `beginning::fresh_scalars` meets its contract. Assumes nothing.
use lib.Ieee.{div, of_bits}
use Rattle.lasso_optimizer.specs.Fit.{fresh}
use Rattle.beginning.proofs.fresh_scalars.Goals as goal

pub first_t-t-requires : goal.first_t-t-requires
first_t-t-requires c = c.requires

pub returns : goal.returns
unfolding fresh div of_bits
returns c = rw (c.canonical.ensures, c.first_t-t.ensures)
