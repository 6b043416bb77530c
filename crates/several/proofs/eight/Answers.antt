use Prim.Native.Nat.{◌+◌, ◌*◌}
use mathlib.Core.Path.{◌≡◌, refl}
use native.Mathlib.Omega.{arith}
use lib.Ieee.{nan}
use Rattle.arrays.specs.Part.{tab}
use Rattle.arrays.proofs.Part.{get_or-part}
use Rattle.arrays.specs.Sums.{product_of}
use Rattle.several.proofs.Several.{several-none, several-more, several-turn, several-all}
use Rattle.several.proofs.eight.Goals as goal

pub loop-i-init : goal.loop-i-init
unfolding tab
loop-i-init c = (omega arith, several-none 8 _ _ refl)

pub loop-k-init : goal.loop-k-init
loop-k-init c = c.loop-i.invariant.1

pub loop-k-preserved : goal.loop-k-preserved
loop-k-preserved c =
    let i = c.loop-i.i in
    let g = c.args in
    let h = c.loop-i-test.true in
    let ex = get_or-part g.x.now (g.a + c.loop-k.k * g.apart) g.n i nan h in
    let ey = get_or-part g.y.now g.b g.n i nan h in
    several-more c.loop-k.invariant _ c.loop-k-test.true (rw (ex, ey))

pub loop-i-preserved : goal.loop-i-preserved
loop-i-preserved c = (omega arith, several-turn c.loop-k.invariant (omega arith))

pub returns : goal.returns
unfolding product_of
returns c =
    let e : c.loop-i.i ≡ c.args.n = omega arith in
    several-all (rw e at c.loop-i.invariant.1)
