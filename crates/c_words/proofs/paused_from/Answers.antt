-- `c_words::paused_from` meets its contract. Assumes nothing.
use Rattle.c_words.specs.Words.{paused_from}
use Rattle.c_words.proofs.paused_from.Goals as goal

pub returns : goal.returns
unfolding paused_from
returns c = rw (c.stage_from-stage.ensures, c.scalars_from-scalars.ensures)
