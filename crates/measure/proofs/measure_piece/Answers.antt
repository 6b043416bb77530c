-- `measure::measure_piece` is safe: what `limits` has passed may be prepared as a start prepares it. Assumes nothing.
use native.Mathlib.Omega.{arith}
use mathlib.Core.Path.{refl}
use Rattle.checks.proofs.Laws.{passes}
use Rattle.elastic_net.proofs.Calls.{known, has-room}
use Rattle.measure.proofs.measure_piece.Goals as goal

pub overflow_mul-p : goal.overflow_mul-p
overflow_mul-p c =
    let a = passes c.limits.result c.limits.ensures c.in-Ok.is in
    omega (arith, a.columns)

pub overflow_add-n : goal.overflow_add-n
overflow_add-n c =
    let a = passes c.limits.result c.limits.ensures c.in-Ok.is in
    omega (arith, a.rows, a.columns)

pub new-fit-requires : goal.new-fit-requires
new-fit-requires c =
    let a = passes c.limits.result c.limits.ensures c.in-Ok.is in
    record { n_bound = a.rows; some_columns = a.some-columns; p_bound = a.columns; lent = omega (arith, a.matrix); allowed = a.settings }

pub repeat-requires : goal.repeat-requires
repeat-requires c =
    let a = passes c.limits.result c.limits.ensures c.in-Ok.is in
    let e = c.new-fit.ensures in
    let q = e.sizes_are in
    let k = known a q in
    record { room = has-room a q _ refl; suits = e.suits; some_columns = e.some_columns; panelled = e.panelled; vectors = omega (arith, c.if-given-n.false, k.rows, k.columns) }
