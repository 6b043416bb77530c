-- `sheet_api::xangoravit_read_sheet` meets its contract where header or place has the wrong length: then nothing is lent. Assumes nothing.
use mathlib.Core.Path.{sym, ◌∙◌}
use Rattle.sheet_api.proofs.Calls.{sheet-not-due}
use Rattle.sheet_api.proofs.xangoravit_read_sheet.Goals as goal

pub returns-then-not-due : goal.returns-then-not-due
returns-then-not-due c =
    let g = c.args in
    sheet-not-due g.bytes.now g.rows g.cols g.x.now g.y.now g.header.now g.place.now
    (sym c.due.ensures ∙ c.if-not-due.true) c.refuse.ensures.value c.refuse.ensures.place_after
