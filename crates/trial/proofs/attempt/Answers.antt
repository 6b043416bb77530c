-- `trial::attempt` meets its contract: one return where the new point is inside, by `decide`, and one where the step is halved. Assumes nothing.
use Rattle.trial.proofs.Returns.{inside, outside}
use Rattle.trial.proofs.attempt.Goals as goal

pub returns-then-most : goal.returns-then-most
returns-then-most c =
    inside c.args.fit.now.sizes c.args.fit.now.terms c.args.a _ c.args.fit.now.laid c.args.fit.now.matrix.now
    c.move_on.ensures c.largest-most.ensures c.if-most.true c.decide.ensures

pub returns : goal.returns
returns c =
    outside c.args.fit.now.sizes c.args.fit.now.terms c.args.a _ c.args.fit.now.laid c.args.fit.now.matrix.now
    c.move_on.ensures c.largest-most.ensures c.if-most.false c.half_step.ensures
