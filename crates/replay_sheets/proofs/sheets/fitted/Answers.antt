-- `replay_sheets::sheets::fitted` is safe: the text lies within what was lent. Assumes nothing.
use Rattle.std.proofs.Common.{sym, length-take-le}
use Rattle.sheet_fit.proofs.Within.{within}
use Rattle.replay_sheets.proofs.sheets.fitted.Goals as goal

pub slice_bounds-text-end : goal.slice_bounds-text-end
slice_bounds-text-end c = within _ _ c.fit_sheet-n.ensures

pub slice_bounds-is-end : goal.slice_bounds-is-end
slice_bounds-is-end c = sym (length-take-le _ _ (within _ _ c.fit_sheet-n.ensures))
