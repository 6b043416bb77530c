-- Weights and bounds are written by an accepted trial alone. Assumes nothing.
use mathlib.Core.Path.{◌≡◌, refl, sym, ◌∙◌, subst}
use mathlib.Core.Bool.{Bool, true, false, cond}
use mathlib.Core.List.{List}
use Prim.Native.Nat.{ℕ}
use lib.Ieee.{Float, lt}
use Rattle.settings.specs.declared.Terms.{Terms}
use Rattle.layout.specs.declared.Sizes.{Sizes}
use Rattle.layout.specs.Store.{upd}
use Rattle.layout.specs.Slots.{Store, ◌⟨◌≔◌⟩}
use Rattle.layout.specs.Slots.{Slot.W, Slot.U, Slot.NU, Slot.XNU}
use Rattle.arrays.specs.Sums.{norm_inf_of}
use Rattle.inner_solver.specs.Inner.{with_work, begin_store, turn_store}
use Rattle.bound.specs.Guarded.{Guarded}
use Rattle.lasso_optimizer.specs.Opening.{residual_store, shrunk_store, gap_store, barrier_store, gradient_store, preconditioner_store, newton_store}
use Rattle.lasso_optimizer.specs.Trial.{moved_store, newz_store}

-- u has the weights and bounds of v
pub record Untouched (u v : Store) : Type 0 where
  pub weights : u W ≡ v W
  pub bounds : u U ≡ v U

pub kept_by : {p n : ℕ} {t : Float} {u v : Store} → Untouched u v → Guarded p n t (v W) (v U) → Guarded p n t (u W) (u U)
kept_by {p} {n} {t} {u} {v} e k =
    subst (λ (ws : List Float). Guarded p n t ws (u U)) (sym e.weights) (subst (λ (us : List Float). Guarded p n t (v W) us) (sym e.bounds) k)

pub both : {u v w : Store} → Untouched u v → Untouched v w → Untouched u w
both a b = record { weights = a.weights ∙ b.weights; bounds = a.bounds ∙ b.bounds }

nu-or-none : (b : Bool) (f : Store → List Float) (v : Store) → Untouched (cond b (v ⟨ NU ≔ f ⟩) v) v
unfolding ◌⟨◌≔◌⟩ upd
nu-or-none true f v = record { weights = refl; bounds = refl }
nu-or-none false f v = record { weights = refl; bounds = refl }

module _ (sh : Sizes) where
  barrier-keeps : (t : Float) (v : Store) → Untouched (barrier_store sh t v) v
  unfolding barrier_store ◌⟨◌≔◌⟩ upd
  barrier-keeps t v = record { weights = refl; bounds = refl }

  preconditioner-keeps : (v : Store) → Untouched (preconditioner_store sh v) v
  unfolding preconditioner_store ◌⟨◌≔◌⟩ upd
  preconditioner-keeps v = record { weights = refl; bounds = refl }

  pub begin-keeps : (v : Store) → Untouched (begin_store sh v) v
  unfolding begin_store with_work ◌⟨◌≔◌⟩ upd
  begin-keeps v = record { weights = refl; bounds = refl }

  pub turn-keeps : (first : Bool) (bkden : Float) (v : Store) → Untouched (turn_store sh first bkden v) v
  unfolding turn_store with_work ◌⟨◌≔◌⟩ upd
  turn-keeps first bkden v = record { weights = refl; bounds = refl }

  pub moved_keeps : (s : Float) (v : Store) → Untouched (moved_store sh s v) v
  unfolding moved_store ◌⟨◌≔◌⟩ upd
  moved_keeps s v = record { weights = refl; bounds = refl }

  module _ (tm : Terms) where
    shrunk-keeps : (most : Float) (v : Store) → Untouched (shrunk_store sh tm most v) v
    unfolding shrunk_store
    shrunk-keeps most v = nu-or-none (lt tm.lambda most) _ v

    module _ (m : List Float) where
      residual-keeps : (v : Store) → Untouched (residual_store sh tm m v) v
      unfolding residual_store ◌⟨◌≔◌⟩ upd
      residual-keeps v = record { weights = refl; bounds = refl }

      pub gap-keeps : (v : Store) → Untouched (gap_store sh tm m v) v
      unfolding gap_store
      gap-keeps v = both (shrunk-keeps (norm_inf_of sh.p (residual_store sh tm m v XNU)) (residual_store sh tm m v)) (residual-keeps v)

      gradient-keeps : (t : Float) (v : Store) → Untouched (gradient_store sh tm m t v) v
      unfolding gradient_store ◌⟨◌≔◌⟩ upd
      gradient-keeps t v = record { weights = refl; bounds = refl }

      pub newton-keeps : (t : Float) (v : Store) → Untouched (newton_store sh tm m t v) v
      unfolding newton_store
      newton-keeps t v =
          both (preconditioner-keeps (gradient_store sh tm m t (barrier_store sh t v)))
          (both (gradient-keeps t (barrier_store sh t v)) (barrier-keeps t v))

      pub newz-keeps : (v : Store) → Untouched (newz_store sh tm m v) v
      unfolding newz_store ◌⟨◌≔◌⟩ upd
      newz-keeps v = record { weights = refl; bounds = refl }
