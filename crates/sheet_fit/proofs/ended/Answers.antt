-- `sheet_fit::ended` meets its contract. Assumes nothing.
use mathlib.Core.Path.{◌∙◌}
use Rattle.sheet_fit.proofs.Returns.{done-few}
use Rattle.sheet_fit.proofs.ended.Goals as goal

pub returns : goal.returns
returns c =
    let few = c.requires in
    rw (← c.bits_of.ensures) (c.write_done.ensures ∙ done-few _ _ _ _ _ _ _ few)
