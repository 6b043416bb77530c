use Prim.Native.Nat.{◌/◌}
use native.Mathlib.Omega.{arith}
use Rattle.arrays.proofs.Turns.{made-first}
use Rattle.several.proofs.Runs.{runs_none, runs-all}
use Rattle.matrices.proofs.Lengths.{last-run}
use Rattle.lazy_normalization.specs.Lazy.{lazy_rows}
use Rattle.lazy_rows.specs.RowSums.{lazy_sums}
use Rattle.lazy_rows.proofs.RowSums.{eight-more, rows_more, rows_all}
use Rattle.lazy_rows.proofs.rows.Goals as goal

pub loop-i-init : goal.loop-i-init
loop-i-init c = runs_none _ _ 8 _ _

pub eight_sums-x-requires : goal.eight_sums-x-requires
eight_sums-x-requires c =
    let g = c.args in
    record {
      last = omega (arith, last-run c.loop-i.i (g.n / 8) g.n g.p (omega arith) c.loop-i-test.true);
      centres = omega arith;
      scales = omega arith;
      reciprocals = omega arith;
      vector = omega arith;
    }

pub loop-i-preserved : goal.loop-i-preserved
loop-i-preserved c =
    eight-more c.requires (omega arith) c.args.t.gamma c.loop-i.invariant c.eight_sums-x.ensures c.scaled.ensures c.put_eight.ensures c.loop-i-test.true

pub loop-i-2-init : goal.loop-i-2-init
loop-i-2-init c = made-first _ _ _ _ _ _ (omega arith) (runs-all c.loop-i.invariant (omega arith) (omega arith))

pub loop-i-2-preserved : goal.loop-i-2-preserved
loop-i-2-preserved c = rows_more c.requires c.args.t c.loop-i-2.invariant c.loop-i-2-test.true c.row_sum-x.ensures

pub times-requires : goal.times-requires
times-requires c =
    record {
      room = omega arith;
      first = omega arith;
      clear = λ l k. absurd (omega (arith, c.requires.off-vector (omega arith)));
    }

pub returns : goal.returns
unfolding lazy_rows lazy_sums
returns c = rows_all c.requires c.args.t c.loop-i-2.invariant _ (omega arith) c.times.ensures
