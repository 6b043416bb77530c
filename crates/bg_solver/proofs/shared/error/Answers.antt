-- `bg_solver::shared::error` meets its contract: the norm whose terms are magnitudes is the one that is computed. Assumes nothing.
use Rattle.arrays.proofs.Norms.{norm-two}
use Rattle.bg_solver.proofs.shared.error.Goals as goal

pub returns : goal.returns
returns c = rw (c.norm_2.ensures, norm-two)
