-- `trial::decide` meets its contract: one return for each side of the decrease test. Assumes nothing.
use Rattle.layout.specs.Slots.{vars}
use Rattle.lasso_optimizer.specs.Trial.{newz_store}
use Rattle.trial.proofs.Returns.{accepted, refused}
use Rattle.trial.proofs.decide.Goals as goal

pub returns-then-accepts : goal.returns-then-accepts
returns-then-accepts c =
    let g = c.args in
    let v = newz_store g.fit.now.sizes g.fit.now.terms g.fit.now.matrix.now (vars g.fit.now.sizes g.s.now) in
    accepted g.fit.now.sizes g.fit.now.terms g.a v c.residuals.ensures c.newphi-new.ensures c.accepts.ensures c.if-accepts.true
    c.take.ensures

pub returns : goal.returns
returns c =
    let g = c.args in
    let v = newz_store g.fit.now.sizes g.fit.now.terms g.fit.now.matrix.now (vars g.fit.now.sizes g.s.now) in
    refused g.fit.now.sizes g.fit.now.terms g.a v c.residuals.ensures c.newphi-new.ensures c.accepts.ensures c.if-accepts.false
    c.half_step.ensures
