use mathlib.Core.List.{List}
use Prim.Native.Nat.{ℕ, ◌+◌, ◌*◌, ◌≤◌, ◌<◌}
use native.Mathlib.Omega.{arith}
use lib.ListN.{set}
use lib.Ieee.{Float, nan}
use Rattle.arrays.specs.Part.{tab}
use Rattle.arrays.proofs.Part.{length-tab, get_or-put-below}
use Rattle.arrays.proofs.Turns.{Made, made_none, made_more}
use Rattle.gram_panels.specs.Panels.{across}
use Rattle.gram_panels.proofs.mirror_row.Goals as goal

-- the column, which lies behind the row, is as it was
turn : {s₀ : List Float} {to : ℕ} (from p : ℕ) {n : ℕ} {s : List Float} {b : ℕ} → Made s₀ to n (across s₀ from p) s b → b < n → to + n ≤ from
    → Made s₀ to n (across s₀ from p) (set s (to + b) (across s from p b)) (b + 1)
turn {s₀} {to} from p {s = s} {b = b} t h l =
    let f = across s₀ from p in
    made_more t (across s from p b) h (rw t.is (get_or-put-below s₀ to (tab f b) (from + b * p) nan (rw length-tab (omega arith))))

pub loop-b-init : goal.loop-b-init
loop-b-init c = made_none _ _ _ _

pub loop-b-preserved : goal.loop-b-preserved
loop-b-preserved c = turn _ _ c.loop-b.invariant (omega arith) c.requires.apart
