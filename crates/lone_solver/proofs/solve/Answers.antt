-- `lone_solver::solve` meets its contract: a check that passes gives what `run` asks. Assumes nothing.
use native.Mathlib.Omega.{arith}
use Rattle.lone_solver.proofs.Checks.{passed}
use Rattle.lone_solver.proofs.solve.Goals as goal

pub run-err-requires : goal.run-err-requires
run-err-requires c =
    let p = passed c.check.result c.check.ensures c.in_ok-check.was in
    record {
      loops = record { small = p.sizes.most; matrix = p.lengths.matrix; room = p.scratch };
      right = p.lengths.right;
      start = p.lengths.start;
      rounds = p.settings.rounds;
    }

pub sweep-requires : goal.sweep-requires
sweep-requires c =
    let p = passed c.check.result c.check.ensures c.in_ok-check.was in
    omega (arith, c.run-err.auto.x, p.lengths.start)
