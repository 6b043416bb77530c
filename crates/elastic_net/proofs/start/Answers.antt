-- `elastic_net::start` meets its contract: each refusal is that of the first check that fails; past both, sizes and lengths are what `begin` asks.
-- Assumes nothing.
use mathlib.Core.Path.{refl, sym, ◌∙◌}
use native.Mathlib.Omega.{arith}
use Rattle.checks.proofs.Laws.{passes}
use Rattle.elastic_net.proofs.Calls.{known, has-room}
use Rattle.elastic_net.proofs.Ends.{starts}
use Rattle.elastic_net.proofs.start.Goals as goal

pub start_values-requires : goal.start_values-requires
start_values-requires c =
    let a = passes c.limits.result c.limits.ensures c.in_ok-limits.was in
    record { matrix = a.matrix; targets = a.targets; rows = a.rows; columns = a.columns }

pub new-fit-requires : goal.new-fit-requires
new-fit-requires c =
    let a = passes c.limits.result c.limits.ensures c.in_ok-limits.was in
    record { n_bound = a.rows; some_columns = a.some-columns; p_bound = a.columns; lent = omega (arith, a.matrix); allowed = a.settings }

pub begin-requires : goal.begin-requires
begin-requires c =
    let a = passes c.limits.result c.limits.ensures c.in_ok-limits.was in
    let e = c.new-fit.ensures in
    let q = e.sizes_are in
    record { room = has-room a q _ refl; suits = e.suits; some_columns = e.some_columns; panelled = e.panelled; need_value = c.need.ensures; targets = a.targets ∙ sym (known a q).rows }

pub fresh_scalars-requires : goal.fresh_scalars-requires
fresh_scalars-requires c =
    let a = passes c.limits.result c.limits.ensures c.in_ok-limits.was in
    omega (arith, a.columns)

pub returns : goal.returns
returns c =
    let g = c.args in
    let e = c.new-fit.ensures in
    starts g.n g.p g.x.now g.y.now g.st g.s.now c.limits.ensures c.in_ok-limits.was
    c.start_values.ensures c.in_ok-start_values.was e.sizes_are e.terms_are
    (rw (e.normalise_is, e.matrix_is) at c.begin.ensures) c.fresh_scalars.ensures c.first.ensures
