use mathlib.Core.Path.{◌≡◌, ap}
use mathlib.Core.List.{List}
use Prim.Native.Nat.{ℕ}
use native.Mathlib.Omega.{arith}
use lib.Ieee.{Float, nan}
use Rattle.numbers.specs.Ops.{◌⊗◌}
use Rattle.arrays.specs.Part.{tab}
use Rattle.arrays.proofs.Part.{length-tab, get_or-put-below}
use Rattle.arrays.specs.Sums.{◌!◌}
use Rattle.arrays.proofs.Turns.{Made, made_none, array-more, array-all}
use Rattle.lazy_rows.proofs.scaled.Goals as goal

-- the element that is next is still as it was
still : {x : List Float} {n : ℕ} {f : ℕ → Float} {s : List Float} {i : ℕ} → Made x 0 n f s i → s ! i ≡ x ! i
still {x} {f = f} {i = i} m = rw m.is (get_or-put-below x 0 (tab f i) i nan (omega (arith, length-tab f i)))

pub loop-y-init : goal.loop-y-init
loop-y-init c = made_none _ _ _ _

pub loop-y-preserved : goal.loop-y-preserved
loop-y-preserved c = array-more c.loop-y.invariant _ c.loop-y-test.true (ap (λ (v : Float). v ⊗ c.args.gamma) (still c.loop-y.invariant))

pub returns : goal.returns
returns c = array-all c.loop-y.invariant c.loop-y-test.false (omega (arith, c.loop-y.invariant.long, c.loop-y-test.array_long))
