-- `newton_step::gradphi` meets its contract. Assumes nothing.
use Rattle.newton_step.proofs.Stores.{gradphi-copied}
use Rattle.newton_step.proofs.gradphi.Goals as goal

pub returns : goal.returns
returns c = gradphi-copied c.args.fit.now.laid c.args.fit.now.terms c.args.fit.now.matrix.now _ c.args.s.now c.requires.gradphi c.copy_from.ensures
