-- `duality::residuals` meets its contract. Assumes nothing.
use native.Mathlib.Omega.{arith}
use Rattle.design_products.proofs.Lengths.{held_of}
use Rattle.duality.proofs.Stores.{residuals-left, gradphi-made}
use Rattle.duality.proofs.residuals.Goals as goal

pub returns : goal.returns
returns c =
    let z = c.start_residuals.ensures in
    let nu = c.times.ensures in
    record { makes = residuals-left (held_of c.args.fit.now c.requires.suits c.requires.room) c.args.fit.now.terms z nu c.transposed_both.ensures.s_after; gradphi = gradphi-made (held_of c.args.fit.now c.requires.suits c.requires.room) c.args.fit.now.terms z nu _ _ (omega arith) c.transposed_both.ensures.t_after }
