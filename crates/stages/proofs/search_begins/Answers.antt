-- `stages::search_begins` meets its contract. Assumes nothing.
use mathlib.Core.Path.{ap}
use Rattle.records.specs.Record.{counts_of}
use Rattle.stages.specs.Stage.{search_from}
use Rattle.stages.proofs.search_begins.Goals as goal

pub returns : goal.returns
returns c = ap (search_from c.args.r (counts_of c.args.d)) c.aim-g.ensures
