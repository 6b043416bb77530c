-- `sheet_fit::fit_sheet` meets its contract: n and p are those of the header that was read. Assumes nothing.
use Rattle.sheet_fit.proofs.Returns.{header_is}
use Rattle.sheet_fit.proofs.fit_sheet.Goals as goal

pub headed-requires : goal.headed-requires
headed-requires c =
    let both = header_is _ _ _ c.read_header.ensures c.in-Ok.is in
    record { n_value = both.0; p_value = both.1 }
