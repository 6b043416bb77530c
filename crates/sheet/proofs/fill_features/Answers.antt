use native.Mathlib.Omega.{arith}
use Rattle.arrays.proofs.Turns.{made_none, made_more, made_all}
use Rattle.sheet.proofs.fill_features.Goals as goal

pub loop-j-init : goal.loop-j-init
loop-j-init c = made_none _ _ _ _

pub loop-j-preserved : goal.loop-j-preserved
loop-j-preserved c = made_more c.loop-j.invariant _ c.loop-j-test.true c.float_at.ensures

pub returns : goal.returns
returns c = made_all c.loop-j.invariant (omega arith)
