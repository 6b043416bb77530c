-- `sheet_fit::answered` meets its contract. Assumes nothing.
use Rattle.sheet_fit.proofs.Returns.{same_text, done-text, refused-text}
use Rattle.sheet_fit.proofs.answered.Goals as goal

pub returns-in-Ok : goal.returns-in-Ok
returns-in-Ok c = same_text _ (done-text _ c.in-Ok.is) c.ended.ensures

pub returns-in-Err : goal.returns-in-Err
returns-in-Err c = same_text _ (refused-text _ c.in-Err.is) c.refused.ensures
