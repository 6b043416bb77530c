-- `records::clean` meets its contract. Assumes nothing.
use Rattle.records.proofs.clean.Goals as goal

pub returns : goal.returns
returns c = rw c.clean_scalars-a.ensures
