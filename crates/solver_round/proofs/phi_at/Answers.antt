-- `solver_round::phi_at` meets its contract. Assumes nothing.
use Rattle.solver_round.proofs.Returns.{phi-is}
use Rattle.solver_round.proofs.phi_at.Goals as goal

pub returns : goal.returns
returns c = phi-is c.args.fit.now.laid c.args.s.now c.args.fit.now.terms c.args.t c.dot-zz.ensures c.sum-sumu.ensures c.sumlogneg-logs.ensures c.phi.ensures
