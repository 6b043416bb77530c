-- `sheet_fit::refused` meets its contract. Assumes nothing.
use Rattle.sheet_fit.proofs.refused.Goals as goal

pub returns : goal.returns
returns c = rw (← c.number.ensures, ← c.place.ensures) c.write_refused.ensures
