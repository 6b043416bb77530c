-- `elastic_net::finish` meets its contract: one return for a fit that is done, and one for a fit that failed, whose weights are +0. Assumes nothing.
use mathlib.Core.Path.{◌∙◌}
use native.Mathlib.Omega.{arith}
use Rattle.layout.specs.Slots.{words}
use Rattle.elastic_net.proofs.Ends.{is-done, fails}
use Rattle.elastic_net.proofs.finish.Goals as goal

pub wipe-requires-clause-need_in_bounds : goal.wipe-requires-clause-need_in_bounds
unfolding words
wipe-requires-clause-need_in_bounds c = omega (arith, c.need.ensures, c.requires.room)

pub returns-in-Ok : goal.returns-in-Ok
returns-in-Ok c =
    let g = c.args in
    is-done g.fit.now.sizes g.fit.now.normalise g.fit.now.terms.gamma g.y.now g.s.now g.c c.solution-b.ensures.intercept_is
    c.ended-e.ensures c.wipe.ensures c.solution-b.ensures.weights_are c.in-Ok.is

pub returns-in-Err : goal.returns-in-Err
returns-in-Err c =
    let g = c.args in
    fails g.fit.now.sizes g.fit.now.normalise g.fit.now.terms.gamma g.y.now g.s.now g.c c.solution-b.ensures.intercept_is
    c.ended-e.ensures c.wipe.ensures
    c.solution-b.new.w
    (c.solution-b.auto.w ∙ c.requires.weights)
    c.fill.ensures c.in-Err.is c.from.ensures
