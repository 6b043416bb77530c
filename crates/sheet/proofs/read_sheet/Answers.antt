-- `sheet::read_sheet` meets its contract: what was counted is the header of the part that is lent. Assumes nothing.
use native.Mathlib.Omega.{arith}
use Rattle.sheet_header.proofs.Passed.{body-lent, body-begun, body-within}
use Rattle.sheet.proofs.Outcomes.{counted-header}
use Rattle.sheet.proofs.read_sheet.Goals as goal

pub body_at-requires : goal.body_at-requires
body_at-requires c =
    let k = c.count_rows in
    body-begun c.args.b.now (counted-header _ _ _ k.result k.ensures c.in_ok-h.was).0

pub slice_bounds-read_body-count : goal.slice_bounds-read_body-count
slice_bounds-read_body-count c =
    let k = c.count_rows in
    body-within c.args.b.now _ c.body_at.ensures (counted-header _ _ _ k.result k.ensures c.in_ok-h.was).0

pub slice_bounds-read_body-start : goal.slice_bounds-read_body-start
slice_bounds-read_body-start c =
    let k = c.count_rows in
    omega (arith, body-within c.args.b.now _ c.body_at.ensures (counted-header _ _ _ k.result k.ensures c.in_ok-h.was).0)

pub read_body-requires : goal.read_body-requires
read_body-requires c =
    let k = c.count_rows in
    let h = counted-header _ _ _ k.result k.ensures c.in_ok-h.was in
    rw (body-lent c.args.b.now c.body_at.result c.body_at.ensures) record { b_len = h.0; n_value = h.1; p_value = h.2 }
