use mathlib.Core.Path.{◌≡◌, refl}
use native.Mathlib.Numerals.{add-one}
use native.Mathlib.Omega.{arith}
use lib.ListN.{length-set}
use Rattle.several.specs.Several.{spread_of}
use Rattle.several.proofs.put_eight.Goals as goal

pub loop-k-init : goal.loop-k-init
unfolding spread_of
loop-k-init c = (omega arith, refl, refl)

pub loop-k-preserved : goal.loop-k-preserved
unfolding spread_of
loop-k-preserved c = (omega arith, simp length-set c.loop-k.invariant.1, rw (add-one, ← c.loop-k.invariant.2))

pub returns : goal.returns
returns c =
    let e : c.loop-k.k ≡ 8 = omega arith in
    rw e at c.loop-k.invariant.2
