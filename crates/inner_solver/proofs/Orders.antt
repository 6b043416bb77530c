-- The stores that the calls leave, their writes put into the order of `with_work`. Assumes nothing.
use mathlib.Core.Path.{◌≡◌, refl, subst, fun_ext}
use mathlib.Core.List.{List, [], ◌∷◌}
use Prim.Native.Nat.{ℕ, zero, suc, ◌<◌}
use native.Mathlib.Nat.{not-suc-le-zero, le_of_suc-le-suc}
use lib.ListN.{length, get_or}
use lib.Ieee.{Float}
use Rattle.layout.specs.Store.{upd}
use Rattle.layout.specs.Slots.{Slot, Store, num, names, ◌⟨◌≔◌⟩}
use Rattle.layout.proofs.Slots.{slot_of, listed}
use Rattle.layout.specs.Slots.{Slot.W, Slot.DXU, Slot.R, Slot.RR, Slot.ZS, Slot.ZZ, Slot.PS, Slot.PP, Slot.ATAX}

-- P of each slot of a list
infixr 5 ◌&◌
data Every (P : Slot → Type 0) : List Slot → Type 0 where
  none : Every P []
  ◌&◌ : {s : Slot} {ss : List Slot} → P s → Every P ss → Every P (s ∷ ss)

every : (P : Slot → Type 0) {ss : List Slot} → Every P ss → (i : ℕ) → i < length ss → P (get_or ss i W)
every P none i l = absurd (not-suc-le-zero l)
every P (x & xs) zero l = x
every P (x & xs) (suc i) l = every P xs i (le_of_suc-le-suc l)

-- two stores that agree on each slot
same_store : (u v : Store) → Every (λ s. u s ≡ v s) names → u ≡ v
same_store u v t = fun_ext (λ s. subst (λ (k : Slot). u k ≡ v k) (slot_of s) (every (λ k. u k ≡ v k) t (num s) (listed s)))

module _ (v : Store) (x r rr z zz p pp a : List Float) where
  -- what `with_work` makes, over its vectors
  abbrev pub working : Store
  working =
      v ⟨ DXU ≔ (λ u. x) ⟩ ⟨ R ≔ (λ u. r) ⟩ ⟨ RR ≔ (λ u. rr) ⟩ ⟨ ZS ≔ (λ u. z) ⟩ ⟨ ZZ ≔ (λ u. zz) ⟩ ⟨ PS ≔ (λ u. p) ⟩ ⟨ PP ≔ (λ u. pp) ⟩ ⟨ ATAX ≔ (λ u. a) ⟩

  pub turn-order : (zz₁ a₁ z₁ : List Float)
      → v ⟨ ZZ ≔ (λ u. zz₁) ⟩ ⟨ PS ≔ (λ u. p) ⟩ ⟨ PP ≔ (λ u. pp) ⟩ ⟨ ATAX ≔ (λ u. a₁) ⟩ ⟨ ZS ≔ (λ u. z₁) ⟩ ⟨ ATAX ≔ (λ u. a) ⟩ ⟨ ZZ ≔ (λ u. zz) ⟩
      ⟨ DXU ≔ (λ u. x) ⟩ ⟨ R ≔ (λ u. r) ⟩ ⟨ RR ≔ (λ u. rr) ⟩ ⟨ ZS ≔ (λ u. z) ⟩ ≡ working
  unfolding ◌⟨◌≔◌⟩ upd
  turn-order zz₁ a₁ z₁ =
      same_store _ _
      (refl & refl & refl & refl & refl & refl & refl & refl & refl & refl & refl & refl & refl & refl & refl & refl & refl & refl
      & refl & refl & refl & refl & refl & refl & refl & refl & refl & refl & refl & refl & refl & refl & refl & refl & refl & none)

pub begin-order : (v : Store) (a t r z : List Float)
    → v ⟨ ATAX ≔ (λ u. a) ⟩ ⟨ R ≔ (λ u. t) ⟩ ⟨ R ≔ (λ u. r) ⟩ ⟨ RR ≔ (λ u. r) ⟩ ⟨ ZS ≔ (λ u. z) ⟩ ≡ working v (v DXU) r r z (v ZZ) (v PS) (v PP) a
unfolding ◌⟨◌≔◌⟩ upd
begin-order v a t r z =
    same_store _ _
    (refl & refl & refl & refl & refl & refl & refl & refl & refl & refl & refl & refl & refl & refl & refl & refl & refl & refl
    & refl & refl & refl & refl & refl & refl & refl & refl & refl & refl & refl & refl & refl & refl & refl & refl & refl & none)
