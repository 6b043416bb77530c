-- `c_words::scalars_from` meets its contract. Assumes nothing.
use Rattle.c_words.proofs.scalars_from.Goals as goal

pub returns : goal.returns
returns c = rw (c.floats_at-a.ensures, c.floats_at-b.ensures, c.floats_at-c.ensures)
