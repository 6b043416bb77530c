-- `inner_solver::precondition` meets its contract. Assumes nothing.
use Rattle.inner_solver.proofs.Joins.{solved-joined}
use Rattle.inner_solver.proofs.precondition.Goals as goal

pub returns : goal.returns
returns c = solved-joined c.requires c.low_solved.ensures c.high_solved.ensures
