-- `sheet_header::read_header` meets its contract: a header that passes is long enough to be read. Assumes nothing.
use native.Mathlib.Omega.{arith}
use Rattle.sheet_header.proofs.Passed.{body-begun, laid-fine, body-there}
use Rattle.sheet_header.proofs.read_header.Goals as goal

pub body_at-requires : goal.body_at-requires
body_at-requires c = body-begun c.args.b.now (laid-fine _ _ _ c.header_check.result c.header_check.ensures c.in_ok-header_check.was)

pub slice_bounds-body-count : goal.slice_bounds-body-count
slice_bounds-body-count c = (body-there _ _ c.args.b.now c.header_check.result c.body_at.result c.header_check.ensures c.in_ok-header_check.was c.body_at.ensures).within

pub slice_bounds-body-start : goal.slice_bounds-body-start
slice_bounds-body-start c =
    let t = body-there _ _ c.args.b.now c.header_check.result c.body_at.result c.header_check.ensures c.in_ok-header_check.was c.body_at.ensures in
    omega (arith, t.within)

pub two_bytes-requires : goal.two_bytes-requires
two_bytes-requires c =
    let t = body-there _ _ c.args.b.now c.header_check.result c.body_at.result c.header_check.ensures c.in_ok-header_check.was c.body_at.ensures in
    omega (arith, t.laid)

pub header_of-requires : goal.header_of-requires
header_of-requires c =
    let t = body-there _ _ c.args.b.now c.header_check.result c.body_at.result c.header_check.ensures c.in_ok-header_check.was c.body_at.ensures in
    omega (arith, t.laid)
