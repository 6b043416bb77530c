-- `duality::primal_and_dual` meets its contract. Assumes nothing.
use Rattle.lasso_optimizer.specs.Opening.{primal_of, dual_of}
use Rattle.duality.proofs.primal_and_dual.Goals as goal

pub returns : goal.returns
unfolding primal_of dual_of
returns c =
    let w = c.args.fit.now.laid in
    record { primal_value = rw (c.three_dots-d.ensures.aa_value, c.norm_1.ensures, w.at-z, w.at-w); dual_value = rw (c.maximum.ensures, c.three_dots-d.ensures.bb_value, c.three_dots-d.ensures.bc_value, w.at-nu, w.at_y) }
