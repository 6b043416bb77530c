-- `bg_solver::shared::answered` meets its contract. Assumes nothing.
use Rattle.bg_solver.specs.Shared.{turn_by}
use Rattle.bg_solver.proofs.shared.answered.Goals as goal

pub returns-then-err-tol : goal.returns-then-err-tol
unfolding turn_by
returns-then-err-tol c = rw c.if-err-tol.true

pub returns : goal.returns
unfolding turn_by
returns c = rw c.if-err-tol.false
