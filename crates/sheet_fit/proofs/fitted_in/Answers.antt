-- `sheet_fit::fitted_in` meets its contract. Assumes nothing.
use Rattle.sheet_fit.proofs.Returns.{same_text, whole-text}
use Rattle.sheet_fit.proofs.fitted_in.Goals as goal

pub returns : goal.returns
returns c =
    let f = c.fit-r in
    same_text _ (whole-text _ f.result f.ensures c.bits_from.ensures) c.answered.ensures
