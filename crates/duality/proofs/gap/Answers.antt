-- `duality::gap` meets its contract. Assumes nothing.
use Rattle.duality.proofs.Stores.{did-gap}
use Rattle.duality.proofs.gap.Goals as goal

pub returns : goal.returns
returns c =
    did-gap c.args.fit.now.laid c.args.fit.now.terms c.residuals-gradphi.ensures.makes c.residuals-gradphi.ensures.gradphi c.norm_inf-most.ensures c.shrink.ensures
    c.primal_and_dual-o.ensures.primal_value c.primal_and_dual-o.ensures.dual_value
