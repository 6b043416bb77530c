-- `opening::pcgtol` meets its contract. Assumes nothing.
use Rattle.opening.proofs.Returns.{pcgtol-first, pcgtol-later}
use Rattle.opening.proofs.pcgtol.Goals as goal

pub returns-then-r-eq0 : goal.returns-then-r-eq0
returns-then-r-eq0 c = pcgtol-first c.args.fit.now.laid _ c.args.r c.args.a c.args.gap c.norm_2-normg.ensures c.if-r-eq0.true c.solver_tolerance.ensures

pub returns : goal.returns
returns c = pcgtol-later c.args.fit.now.laid _ c.args.r c.args.a c.args.gap c.norm_2-normg.ensures c.if-r-eq0.false c.solver_tolerance-2.ensures
