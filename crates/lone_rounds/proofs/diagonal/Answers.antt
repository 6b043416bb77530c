use mathlib.Core.Path.{refl}
use native.Mathlib.Omega.{arith}
use Rattle.arrays.proofs.Turns.{made_none, made_more, made_all}
use Rattle.lone_rounds.specs.Lone.{diagonal_of}
use Rattle.lone_rounds.proofs.diagonal.Goals as goal

pub loop-i-init : goal.loop-i-init
loop-i-init c = made_none _ _ _ _

pub loop-i-preserved : goal.loop-i-preserved
loop-i-preserved c = made_more c.loop-i.invariant _ c.loop-i-test.true refl

pub returns : goal.returns
unfolding diagonal_of
returns c = made_all c.loop-i.invariant (omega arith)
