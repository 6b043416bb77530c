use mathlib.Core.Path.{◌≡◌}
use mathlib.Core.List.{List}
use Prim.Native.Nat.{ℕ, ◌+◌, ◌*◌, ◌<◌}
use native.Mathlib.Omega.{arith}
use lib.Ieee.{Float}
use Rattle.arrays.specs.Part.{put, tab}
use Rattle.arrays.proofs.Folds.{fold-ext}
use Rattle.several.specs.Several.{gathered, added_of}
use Rattle.gram_panels.specs.Panels.{wid, sum_at, carry, Block}
use Rattle.matrices.proofs.Lengths.{row_room}
use Rattle.gram_panels.proofs.Mats.{Striped, striped-none, striped-more, before-rows, beyond-rows}
use Rattle.gram_panels.proofs.block.Goals as goal

turn : {s₀ : List Float} {g p nj nk d l r cc nr : ℕ} {s s' : List Float} {a w : ℕ} → Block s₀ g p nj nk d l r cc nr
    → Striped s₀ g p (wid nk d) (carry s₀ g p l r cc nr) nj s a → a < nj → w ≡ wid nk d a
    → s' ≡ put s (g + a * p) (tab (sum_at s (g + a * p) (l + a) r cc nr) w) → Striped s₀ g p (wid nk d) (carry s₀ g p l r cc nr) nj s' (a + 1)
unfolding added_of gathered carry
turn {s₀} {g} {p} {nj} {nk} {d} {l} {r} {cc} {nr} {s} {s'} {a} {w} pre t h ew e =
    striped-more t w (sum_at s (g + a * p) (l + a) r cc nr) s' h ew
    (λ b m.
    rw (beyond-rows t (g + a * p + b) (λ z q. omega arith) (omega arith)) (fold-ext _ _ _ _ nr (λ k q.
    let u = row_room k nr cc q in
    rw (before-rows t (l + a + k * cc) (omega arith), before-rows t (r + k * cc + b) (omega arith))))) e

pub loop-a-init : goal.loop-a-init
loop-a-init c = striped-none _ _ _ _ _ _

pub loop-a-preserved : goal.loop-a-preserved
loop-a-preserved c =
    turn c.requires c.loop-a.invariant (omega arith) (omega (arith, c.min-w.ensures)) c.entry_row.ensures
