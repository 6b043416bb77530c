-- `claimfit::main` is safe: what is printed lies within the text. Assumes nothing.
use Rattle.std.proofs.Common.{sym, length-take-le}
use Rattle.sheet_fit.proofs.Within.{within}
use Rattle.claimfit.proofs.main.Goals as goal

pub slice_bounds-text-end : goal.slice_bounds-text-end
slice_bounds-text-end c = within _ _ c.fit_sheet-k.ensures

pub slice_bounds-write_all-end : goal.slice_bounds-write_all-end
slice_bounds-write_all-end c = sym (length-take-le _ _ (within _ _ c.fit_sheet-k.ensures))
