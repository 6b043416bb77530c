use mathlib.Core.Path.{◌≡◌}
use mathlib.Core.List.{List}
use Prim.Native.Nat.{ℕ, ◌+◌, ◌≤◌, ◌<◌}
use native.Mathlib.Omega.{arith}
use lib.ListN.{set}
use lib.Ieee.{Float, nan}
use Rattle.arrays.specs.Part.{tab}
use Rattle.arrays.proofs.Part.{get_or-put-above}
use Rattle.arrays.specs.Sums.{◌!◌}
use Rattle.arrays.proofs.Turns.{Made, made_none, made_more}
use Rattle.gram_panels.specs.Panels.{norm_at}
use Rattle.gram_panels.proofs.fill_row.Goals as goal

-- the centres and scales, which lie before the row, are as they were
turn : (m : List Float) (at : ℕ) {s₀ : List Float} (ce sc : ℕ) {to n : ℕ} {s : List Float} {b : ℕ} → Made s₀ to n (norm_at m at s₀ ce sc) s b → b < n
    → ce + n ≤ to → sc + n ≤ to → Made s₀ to n (norm_at m at s₀ ce sc) (set s (to + b) (norm_at m at s ce sc b)) (b + 1)
turn m at {s₀} ce sc {to} {s = s} {b = b} t h hc hs =
    let f = norm_at m at s₀ ce sc in
    let ec : s ! (ce + b) ≡ s₀ ! (ce + b) = rw t.is (get_or-put-above s₀ to (tab f b) (ce + b) nan (omega arith)) in
    let es : s ! (sc + b) ≡ s₀ ! (sc + b) = rw t.is (get_or-put-above s₀ to (tab f b) (sc + b) nan (omega arith)) in
    made_more t (norm_at m at s ce sc b) h (rw (ec, es))

pub loop-b-init : goal.loop-b-init
loop-b-init c = made_none _ _ _ _

pub loop-b-preserved : goal.loop-b-preserved
loop-b-preserved c =
    let a = c.args in
    let pre = c.requires in
    turn a.m.now a.at a.ce a.sc c.loop-b.invariant (omega arith) pre.centres pre.scales
