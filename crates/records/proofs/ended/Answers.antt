-- `records::ended` meets its contract. Assumes nothing.
use mathlib.Core.Path.{refl}
use Rattle.records.specs.Records.{ended_of}
use Rattle.records.proofs.ended.Goals as goal

pub returns : goal.returns
unfolding ended_of
returns c = refl
