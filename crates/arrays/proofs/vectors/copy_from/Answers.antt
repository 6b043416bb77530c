use mathlib.Core.Path.{refl}
use Prim.Native.Nat.{◌<◌}
use native.Mathlib.Omega.{arith}
use Rattle.arrays.proofs.Ranges.{range-part, length_range}
use Rattle.arrays.proofs.Turns.{made_none, made_more, made-copy}
use Rattle.arrays.proofs.vectors.copy_from.Goals as goal

pub loop-i-init : goal.loop-i-init
loop-i-init c = made_none _ _ _ _

pub loop-i-preserved : goal.loop-i-preserved
loop-i-preserved c =
    let g = c.args in
    let h : c.loop-i.i < g.n = omega (arith, length_range g.t.now g.a g.n) in
    made_more c.loop-i.invariant _ h (rw range-part refl)

pub returns : goal.returns
returns c =
    let g = c.args in
    made-copy g.t.now g.a c.loop-i.invariant (omega (arith, length_range g.t.now g.a g.n)) (omega arith)
