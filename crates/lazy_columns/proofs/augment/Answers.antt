use native.Mathlib.Omega.{arith}
use lib.Ieee.{Float}
use Rattle.numbers.specs.Ops.{◌⊕◌, ◌⊗◌}
use Rattle.arrays.specs.Vectors.{zip_of}
use Rattle.arrays.proofs.Turns.{made_none, zip_more, made_all}
use Rattle.lazy_columns.proofs.augment.Goals as goal

pub loop-j-init : goal.loop-j-init
loop-j-init c = made_none _ _ _ _

pub loop-j-preserved : goal.loop-j-preserved
loop-j-preserved c =
    let g = c.args in
    let t = g.t in
    zip_more (λ (v w : Float). t.gamma ⊗ v ⊕ t.padding ⊗ w) g.out g.tail c.loop-j.invariant (omega arith) c.requires.clear
    c.requires.clear2

pub returns : goal.returns
unfolding zip_of
returns c = made_all c.loop-j.invariant (omega arith)
