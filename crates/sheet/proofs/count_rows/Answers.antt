-- `sheet::count_rows` meets its contract: the part that is lent is the body. Assumes nothing.
use native.Mathlib.Omega.{arith}
use Rattle.sheet_header.proofs.Passed.{body-begun, laid-fine, body-there}
use Rattle.sheet.proofs.count_rows.Goals as goal

pub body_at-requires : goal.body_at-requires
body_at-requires c = body-begun c.args.b.now (laid-fine _ _ _ c.header_check.result c.header_check.ensures c.in_ok-header_check.was)

pub slice_bounds-count_body-count : goal.slice_bounds-count_body-count
slice_bounds-count_body-count c = (body-there _ _ c.args.b.now c.header_check.result c.body_at.result c.header_check.ensures c.in_ok-header_check.was c.body_at.ensures).within

pub slice_bounds-count_body-start : goal.slice_bounds-count_body-start
slice_bounds-count_body-start c =
    let t = body-there _ _ c.args.b.now c.header_check.result c.body_at.result c.header_check.ensures c.in_ok-header_check.was c.body_at.ensures in
    omega (arith, t.within)

pub count_body-requires : goal.count_body-requires
count_body-requires c = (body-there _ _ c.args.b.now c.header_check.result c.body_at.result c.header_check.ensures c.in_ok-header_check.was c.body_at.ensures).laid
