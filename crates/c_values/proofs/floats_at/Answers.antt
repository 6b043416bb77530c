-- `c_values::floats_at` meets its contract. Assumes nothing.
use Rattle.c_values.proofs.floats_at.Goals as goal

pub returns : goal.returns
returns c = cc
