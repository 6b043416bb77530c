-- The sums of an entry row, which are carried on from row to row of the panels. Assumes nothing.
use mathlib.Core.Path.{◌≡◌, ap, ◌∙◌}
use mathlib.Core.List.{List}
use Prim.Native.Nat.{ℕ, ◌+◌, ◌*◌, ◌≤◌, ◌<◌}
use native.Mathlib.Nat.{add-mul}
use native.Mathlib.Omega.{arith}
use lib.Ieee.{Float, nan}
use Rattle.arrays.specs.Part.{put, tab}
use Rattle.arrays.proofs.Part.{get_or-put-above}
use Rattle.arrays.specs.Sums.{◌!◌}
use Rattle.arrays.proofs.Turns.{Made}
use Rattle.several.proofs.Added.{added-on}
use Rattle.matrices.proofs.Lengths.{row_room}
use Rattle.gram_panels.specs.Panels.{sum_at, EntryRow}

-- n rows more of the panels, which lie before the sums
pub sums-more : {s₀ : List Float} {at w l r cc nr : ℕ} → EntryRow s₀ at w l r cc nr → {s : List Float} (i n : ℕ) → i + n ≤ nr
    → Made s₀ at w (sum_at s₀ at l r cc i) s w → (t : List Float) → t ≡ put s at (tab (sum_at s at (l + i * cc) (r + i * cc) cc n) w)
    → Made s₀ at w (sum_at s₀ at l r cc (i + n)) t w
sums-more {s₀} {at} {w} {l} {r} {cc} {nr} pre {s} i n h d t e =
    added-on s₀ s (λ k. s₀ ! (l + k * cc)) r cc i n d pre.room
    (λ k b m q. before (r + (i + k) * cc + b) (omega (arith, row_room (i + k) nr cc (omega arith)))) _
    (λ k m.
    let place : l + i * cc + k * cc ≡ l + (i + k) * cc = omega (arith, add-mul i k cc) in
    ap (λ (a : ℕ). s ! a) place ∙ before (l + (i + k) * cc) (omega (arith, row_room (i + k) nr cc (omega arith)))) (r + i * cc) (omega arith) t e where
      before : (j : ℕ) → j < at → s ! j ≡ s₀ ! j
      before j m = rw d.is (get_or-put-above s₀ at (tab (sum_at s₀ at l r cc i) w) j nan m)
