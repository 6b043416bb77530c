use mathlib.Core.Path.{refl}
use native.Mathlib.Omega.{arith}
use Rattle.arrays.proofs.Turns.{made_none, array-more, array-all}
use Rattle.prediction.proofs.finish.Goals as goal

pub loop-k-init : goal.loop-k-init
loop-k-init c = made_none _ _ _ _

pub loop-k-preserved : goal.loop-k-preserved
loop-k-preserved c = array-more c.loop-k.invariant _ c.loop-k-test.true c.canonical.ensures

pub returns : goal.returns
returns c = array-all c.loop-k.invariant (omega arith) refl
