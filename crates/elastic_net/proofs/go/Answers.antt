-- `elastic_net::go` meets its contract: a possible record that is not spent is one that a step may take. Assumes nothing.
use mathlib.Core.Path.{sym, ◌∙◌}
use Rattle.layout.proofs.Fits.{room_of}
use Rattle.lasso_optimizer.specs.Fit.{parts}
use Rattle.records.proofs.Laws.{possible-sane}
use Rattle.elastic_net.proofs.Ends.{stops, goes}
use Rattle.elastic_net.proofs.go.Goals as goal

pub returns-then-spent : goal.returns-then-spent
returns-then-spent c =
    let g = c.args in
    stops (parts g.fit.now.sizes g.fit.now.terms g.fit.now.tol g.fit.now.matrix.now) g.fit.now.limit g.rec g.budget g.fit.now.sizes g.s.now
    (sym c.spent.ensures ∙ c.if-spent.true) (room_of g.fit.now c.requires.room)

pub run_steps-requires-clause-sane : goal.run_steps-requires-clause-sane
run_steps-requires-clause-sane c =
    let g = c.args in
    possible-sane g.fit.now.limit g.rec c.requires.rec_value (sym c.spent.ensures ∙ c.if-spent.false)

pub shape_of-s : goal.shape_of-s
shape_of-s c = c.run_steps.auto.s

pub returns : goal.returns
returns c =
    let g = c.args in
    goes (parts g.fit.now.sizes g.fit.now.terms g.fit.now.tol g.fit.now.matrix.now) g.fit.now.limit g.rec g.budget g.fit.now.sizes g.s.now
    c.requires.rec_value (sym c.spent.ensures ∙ c.if-spent.false) c.run_steps.ensures
