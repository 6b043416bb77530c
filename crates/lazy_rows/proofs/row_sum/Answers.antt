use mathlib.Core.Path.{◌≡◌, sym}
use native.Mathlib.Omega.{arith}
use Rattle.arrays.proofs.Folds.{fold-none, fold-turn}
use Rattle.lazy_rows.proofs.RowSums.{row-term}
use Rattle.lazy_rows.proofs.row_sum.Goals as goal

pub loop-j-init : goal.loop-j-init
loop-j-init c = sym (fold-none _ _ _)

pub loop-j-preserved : goal.loop-j-preserved
loop-j-preserved c = fold-turn _ _ _ _ _ _ c.loop-j.invariant (row-term c.requires c.loop-j.j c.loop-j-test.true c.normalise.ensures)

pub returns : goal.returns
returns c =
    let e : c.loop-j.j ≡ c.args.p = omega arith in
    rw e at c.loop-j.invariant
