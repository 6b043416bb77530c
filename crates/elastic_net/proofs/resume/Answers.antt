-- `elastic_net::resume` meets its contract: the two refusals leave everything as it was; past them it is `accepted`. Assumes nothing.
use mathlib.Core.Path.{sym, ◌∙◌}
use native.Mathlib.Omega.{arith}
use Rattle.checks.proofs.Laws.{passes}
use Rattle.elastic_net.proofs.Calls.{few-rounds}
use Rattle.elastic_net.proofs.Ends.{refused, refused-record, let_through}
use Rattle.elastic_net.proofs.resume.Goals as goal

pub returns-in-Err : goal.returns-in-Err
returns-in-Err c =
    let g = c.args in
    refused g.n g.p g.x.now g.y.now g.st g.rec g.s.now g.w.now g.budget c.limits.ensures c.in-Err.is

pub possible-requires : goal.possible-requires
possible-requires c = omega (arith, few-rounds (passes c.limits.result c.limits.ensures c.in_default.is))

pub returns-then-not-possible : goal.returns-then-not-possible
returns-then-not-possible c =
    let g = c.args in
    refused-record g.n g.p g.x.now g.y.now g.st g.rec g.s.now g.w.now g.budget c.limits.ensures
    c.in_default.is (sym c.possible.ensures ∙ c.if-not-possible.true)

pub accepted-requires : goal.accepted-requires
accepted-requires c =
    record { accepted = passes c.limits.result c.limits.ensures c.in_default.is; rec_value = sym c.possible.ensures ∙ c.if-not-possible.false }

pub returns : goal.returns
returns c =
    let g = c.args in
    let_through g.n g.p g.x.now g.y.now g.st g.rec g.s.now g.w.now g.budget c.limits.ensures
    c.accepted.result c.in_default.is (sym c.possible.ensures ∙ c.if-not-possible.false) c.accepted.ensures
