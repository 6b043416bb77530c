use Prim.Native.Nat.{◌*◌}
use native.Mathlib.Omega.{arith}
use Rattle.arrays.proofs.Turns.{made_none, zip_more, made_all}
use Rattle.lone_rounds.specs.Lone.{over_of, divided_of}
use Rattle.lone_rounds.proofs.divide.Goals as goal

pub loop-i-init : goal.loop-i-init
loop-i-init c = made_none _ _ _ _

pub loop-i-preserved : goal.loop-i-preserved
loop-i-preserved c = rw c.over.ensures (zip_more over_of c.args.b (7 * c.args.n) c.loop-i.invariant (omega arith) c.requires.clear c.requires.clear2)

pub returns : goal.returns
unfolding divided_of
returns c = made_all c.loop-i.invariant (omega arith)
