use native.Mathlib.Omega.{arith}
use Rattle.arrays.proofs.Turns.{made_none, made_all}
use Rattle.lazy_columns.proofs.ColumnSums.{add-more}
use Rattle.lazy_columns.proofs.add_row.Goals as goal

pub loop-j-init : goal.loop-j-init
loop-j-init c = made_none _ _ _ _

pub loop-j-preserved : goal.loop-j-preserved
loop-j-preserved c = add-more c.requires c.args.x c.loop-j.invariant c.loop-j-test.true c.normalise.ensures

pub returns : goal.returns
returns c = made_all c.loop-j.invariant (omega arith)
