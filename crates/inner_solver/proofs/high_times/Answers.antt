use native.Mathlib.Omega.{arith}
use lib.Ieee.{Float}
use Rattle.numbers.specs.Ops.{◌⊕◌, ◌⊗◌}
use Rattle.arrays.proofs.Turns.{made_none, made_all}
use Rattle.inner_solver.proofs.Loops.{reads_more}
use Rattle.inner_solver.proofs.high_times.Goals as goal

pub loop-i-init : goal.loop-i-init
loop-i-init c = made_none _ _ _ _

pub loop-i-preserved : goal.loop-i-preserved
loop-i-preserved c = reads_more (λ (u v w y z : Float). v ⊗ y ⊕ u ⊗ z) c.requires _ (omega arith) (omega arith) c.loop-i.invariant (omega arith)

pub returns : goal.returns
returns c = made_all c.loop-i.invariant (omega arith)
