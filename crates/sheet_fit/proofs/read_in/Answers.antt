-- `sheet_fit::read_in` meets its contract: a sheet that is read has the p of its header, so at most 16. Assumes nothing.
use native.Mathlib.Omega.{arith}
use Rattle.sheet_fit.proofs.Returns.{sheet-is}
use Rattle.sheet_fit.proofs.read_in.Goals as goal

pub fitted-requires : goal.fitted-requires
fitted-requires c =
    let e = sheet-is _ _ _ _ _ c.read_sheet.ensures c.in-Ok.is in
    omega (arith, e)
