use Prim.Native.Nat.{◌<◌}
use mathlib.Core.Path.{refl}
use native.Mathlib.Omega.{arith}
use Rattle.arrays.proofs.Ranges.{range-part, length_range}
use Rattle.arrays.specs.Vectors.{zip_of}
use Rattle.arrays.proofs.Turns.{made_none, made_more, kept, made_all}
use Rattle.arrays.proofs.vectors.add_scaled_from.Goals as goal

pub loop-i-init : goal.loop-i-init
loop-i-init c = made_none _ _ _ _

pub loop-i-preserved : goal.loop-i-preserved
loop-i-preserved c =
    let g = c.args in
    let h : c.loop-i.i < g.n = omega (arith, length_range g.t.now g.a g.n) in
    made_more c.loop-i.invariant _ h (rw (kept c.loop-i.invariant g.out h (λ _ _. refl), range-part))

pub returns : goal.returns
unfolding zip_of
returns c =
    let g = c.args in
    made_all c.loop-i.invariant (omega (arith, length_range g.t.now g.a g.n))
