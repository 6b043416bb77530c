-- `sheet_fit::fitted` meets its contract: the local arrays are all +0, as the text's definition has them. Assumes nothing.
use Rattle.sheet_fit.proofs.Returns.{same_text, fit-text, all-zeros, zeros}
use Rattle.sheet_fit.proofs.fitted.Goals as goal

pub returns : goal.returns
returns c = same_text _ (fit-text _ _ _ _ _ (all-zeros 6336) (zeros 16 c.args.p c.requires)) c.fitted_in.ensures
