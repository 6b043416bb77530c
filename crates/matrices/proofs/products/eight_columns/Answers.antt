use Prim.Native.Nat.{◌+◌, ◌*◌}
use mathlib.Core.Path.{◌≡◌, refl}
use native.Mathlib.Omega.{arith}
use lib.Ieee.{nan}
use Rattle.arrays.specs.Part.{tab}
use Rattle.arrays.proofs.Part.{get_or-part}
use Rattle.several.proofs.Several.{several-none, several-more, several-turn, several-all}
use Rattle.matrices.proofs.products.eight_columns.Goals as goal

pub loop-i-init : goal.loop-i-init
unfolding tab
loop-i-init c = several-none 8 _ _ refl

pub loop-k-preserved : goal.loop-k-preserved
loop-k-preserved c =
    let g = c.args in
    let i = c.loop-i.i in
    let k = c.loop-k.k in
    let place : i * g.cols + g.j + k ≡ i * g.cols + (g.j + k) = omega arith in
    let e = get_or-part g.s.now g.v g.rows i nan c.loop-i-test.true in
    several-more c.loop-k.invariant _ c.loop-k-test.true (rw (place, e))

pub loop-i-preserved : goal.loop-i-preserved
loop-i-preserved c = several-turn c.loop-k.invariant (omega arith)

pub returns : goal.returns
returns c =
    let e : c.loop-i.i ≡ c.args.rows = omega arith in
    several-all (rw e at c.loop-i.invariant)
