use mathlib.Core.Path.{◌≡◌, refl}
use mathlib.Core.List.{List}
use Prim.Native.Nat.{ℕ, ◌+◌, ◌*◌, ◌<◌}
use native.Mathlib.Nat.{add_assoc}
use native.Mathlib.Omega.{arith}
use lib.Ieee.{Float}
use Rattle.arrays.specs.Part.{put, tab}
use Rattle.gram_panels.specs.Panels.{same, norm_at, cell, panel_at, Fill}
use Rattle.gram_panels.proofs.Mats.{Striped, striped-none, striped-more, before-rows}
use Rattle.gram_panels.proofs.fill_panel.Goals as goal

turn : {m : List Float} {p row nr col nc : ℕ} {s₀ : List Float} {ce sc to cc i : ℕ} {s s' : List Float} → Fill m p row nr col nc s₀ ce sc to cc
    → Striped s₀ to cc (same nc) (panel_at m p s₀ ce sc row col) nr s i → i < nr
    → s' ≡ put s (to + i * cc) (tab (norm_at m ((row + i) * p + col) s (ce + col) (sc + col)) nc)
    → Striped s₀ to cc (same nc) (panel_at m p s₀ ce sc row col) nr s' (i + 1)
unfolding cell
turn {m} {p} {row} {nr} {col} {nc} {s₀} {ce} {sc} {to} {cc} {i} {s} {s'} pre t h e =
    striped-more t nc (norm_at m ((row + i) * p + col) s (ce + col) (sc + col)) s' h refl
    (λ b l.
    rw (
      before-rows t (ce + col + b) (omega arith),
      before-rows t (sc + col + b) (omega arith),
      add_assoc ((row + i) * p) col b,
      add_assoc ce col b,
      add_assoc sc col b,
    )) e

pub loop-i-init : goal.loop-i-init
loop-i-init c = striped-none _ _ _ _ _ _

pub loop-i-preserved : goal.loop-i-preserved
loop-i-preserved c = turn c.requires c.loop-i.invariant (omega arith) c.fill_row.ensures
