-- `c_words::write_scalars` meets its contract. Assumes nothing.
use mathlib.Core.Path.{◌∙◌}
use lib.ListN.{length-set}
use Rattle.c_words.proofs.write_scalars.Goals as goal

pub shape_of-out : goal.shape_of-out
shape_of-out c = simp length-set (c.write_floats-3.auto.out ∙ c.write_floats-2.auto.out ∙ c.write_floats.auto.out)

pub returns : goal.returns
returns c = rw (c.write_floats-3.ensures, c.write_floats-2.ensures, c.write_floats.ensures, c.truth_word.ensures)
