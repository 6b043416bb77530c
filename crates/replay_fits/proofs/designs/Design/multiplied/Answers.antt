-- `replay_fits::designs::Design::multiplied` is safe: what `limits` has passed may be multiplied, and the products keep the scratch's length. Assumes nothing.
use mathlib.Core.Path.{refl}
use native.Mathlib.Omega.{arith}
use Rattle.checks.proofs.Laws.{passes}
use Rattle.elastic_net.proofs.Calls.{has-room}
use Rattle.replay_fits.proofs.designs.Design.multiplied.Goals as goal

pub new-fit-requires : goal.new-fit-requires
new-fit-requires c =
    let a = passes c.limits.result c.limits.ensures c.in-Ok.is in
    record { n_bound = a.rows; some_columns = a.some-columns; p_bound = a.columns; lent = omega (arith, a.matrix); allowed = a.settings }

pub matvec-requires-clause-room : goal.matvec-requires-clause-room
matvec-requires-clause-room c = has-room (passes c.limits.result c.limits.ensures c.in-Ok.is) c.new-fit.ensures.sizes_are _ refl

pub transposed-requires-clause-room : goal.transposed-requires-clause-room
transposed-requires-clause-room c = has-room (passes c.limits.result c.limits.ensures c.in-Ok.is) c.new-fit.ensures.sizes_are _ c.matvec.auto.s
