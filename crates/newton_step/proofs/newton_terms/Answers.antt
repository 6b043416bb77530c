-- `newton_step::newton_terms` meets its contract. Assumes nothing.
use Rattle.layout.proofs.Slots.{next, vars-of}
use Rattle.lasso_optimizer.specs.Opening.{gradient_store, preconditioner_store, newton_store}
use Rattle.newton_step.proofs.Stores.{after-barrier}
use Rattle.newton_step.proofs.newton_terms.Goals as goal

pub gradient-requires-clause-gradphi : goal.gradient-requires-clause-gradphi
gradient-requires-clause-gradphi c =
    let sh = c.args.fit.now.sizes in
    let g = after-barrier sh c.args.fit.now.terms c.args.fit.now.matrix.now c.args.t _ c.args.g c.requires.gradphi in
    rw (vars-of sh c.barrier.ensures) g

pub returns : goal.returns
unfolding newton_store
returns c =
    let sh = c.args.fit.now.sizes in
    let h₂ = next sh c.barrier.ensures (gradient_store sh c.args.fit.now.terms c.args.fit.now.matrix.now c.args.t) c.gradient.ensures in
    next sh h₂ (preconditioner_store sh) c.preconditioner.ensures
