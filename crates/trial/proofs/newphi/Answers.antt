-- `trial::newphi` meets its contract. Assumes nothing.
use Rattle.trial.proofs.Returns.{phi-is}
use Rattle.trial.proofs.newphi.Goals as goal

pub returns : goal.returns
returns c =
    phi-is c.args.fit.now.laid c.args.fit.now.terms c.args.t c.args.s.now
    c.dot-zz.ensures c.sum-sumu.ensures c.sumlogneg-logs.ensures c.phi.ensures
