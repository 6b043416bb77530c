-- `solver_round::aim` meets its contract. Assumes nothing.
use Rattle.solver_round.proofs.Returns.{aim-is}
use Rattle.solver_round.proofs.aim.Goals as goal

pub returns : goal.returns
returns c = aim-is c.args.fit.now.laid c.args.s.now c.args.fit.now.terms c.args.a c.missed-far.ensures c.phi_at-at.ensures c.dot-gdx.ensures
