-- `records::first` meets its contract. Assumes nothing.
use Rattle.records.proofs.first.Goals as goal

pub returns : goal.returns
returns c = rw c.no_counts-c.ensures
