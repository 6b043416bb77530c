-- `sheet_fit::headed` meets its contract: no more rows remain than the two size tests let through. Assumes nothing.
use native.Mathlib.Omega.{arith}
use Rattle.sheet_fit.proofs.Returns.{count-is}
use Rattle.sheet_fit.proofs.headed.Goals as goal

pub counted-requires : goal.counted-requires
counted-requires c =
    let h = count-is _ _ _ c.count_rows.ensures c.in-Ok.is in
    record { n_bound = omega (arith, h.0); p_bound = omega (arith, h.1); p_value = h.1 }
