-- `inner_solver::times` meets its contract. Assumes nothing.
use native.Mathlib.Omega.{arith}
use Rattle.inner_solver.proofs.Joins.{times-reads, times-joined}
use Rattle.inner_solver.proofs.times.Goals as goal

pub low_times-requires : goal.low_times-requires
low_times-requires c = times-reads c.requires (omega arith)

pub high_times-requires : goal.high_times-requires
high_times-requires c = times-reads c.requires (omega arith)

pub returns : goal.returns
returns c = times-joined c.requires c.rows.ensures c.low_times.ensures c.high_times.ensures
