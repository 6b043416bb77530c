-- What rows whose claims are passed say of each claim, and that they are passed too with other bits for their scores, where 0 stays 0. Assumes nothing.
use Rattle.std.specs.Prelude.{Ok}
use mathlib.Core.Path.{◌≡◌, refl}
use mathlib.Core.Logic.{◌⊎◌, inl, inr}
use mathlib.Core.Bool.{true}
use Prim.Native.Nat.{ℕ, zero, suc, ◌+◌, ◌≤◌, ◌<◌}
use native.Mathlib.Decide.{dec_lt}
use native.Mathlib.Omega.{arith}
use Rattle.refusal.specs.declared.Refusal.TheVariants.{Claim, Pair}
use Rattle.refusal.proofs.Asking.{ask-fine}
use Rattle.sheet.specs.Rows.{claims_fine, rises, pairs_from}
use Rattle.sheet.proofs.Checks.{Claims, claims-good, claims-of}

module _ (s t w : ℕ) (c : Claims s t w) where
  claims-small : (s ≤ 999) × (t ≤ 999)
  claims-small = (c.source-most, go c.target-fine) where
    go : ((1 ≤ t) × (t ≤ 999)) ⊎ ((t ≡ 0) × (w ≡ 0)) → t ≤ 999
    go (inl h) = h.1
    go (inr h) = omega (arith, h.0)

  -- of a score's bits it matters only whether they are 0
  claims-kept : (w' : ℕ) → (w ≡ 0 → w' ≡ 0) → Claims s t w'
  claims-kept w' z = record { source-least = c.source-least; source-most = c.source-most; target-fine = go c.target-fine } where
    go : ((1 ≤ t) × (t ≤ 999)) ⊎ ((t ≡ 0) × (w ≡ 0)) → ((1 ≤ t) × (t ≤ 999)) ⊎ ((t ≡ 0) × (w' ≡ 0))
    go (inl h) = inl h
    go (inr h) = inr (h.0, z h.1)

module _ (s t w : ℕ → ℕ) where
  first-passed : (left i : ℕ) → pairs_from s t w (suc left) i ≡ Ok tt → Claims (s i) (t i) (w i) × (rises s t i ≡ true) × (pairs_from s t w left (i + 1) ≡ Ok tt)
  unfolding pairs_from
  first-passed left i e =
      let c = ask-fine (claims_fine (s i) (t i) (w i)) (Claim i) _ e in
      let r = ask-fine (rises s t i) (Pair i) _ c.1 in
      (claims-of (s i) (t i) (w i) c.0, r.0, r.1)

  claims-passed : (left i : ℕ) → pairs_from s t w left i ≡ Ok tt → (j : ℕ) → i ≤ j → j < i + left → Claims (s j) (t j) (w j)
  claims-passed zero i e j h l = absurd (omega arith)
  claims-passed (suc left) i e j h l = go (dec_lt i j) (λ m. claims-passed left (i + 1) (first-passed left i e).2 j (omega arith) (omega arith)) where
    go : Dec (i < j) → (i < j → Claims (s j) (t j) (w j)) → Claims (s j) (t j) (w j)
    go (yes m) rec = rec m
    go (no m) rec =
        let q : j ≡ i = omega (arith, m) in
        rw q (first-passed left i e).0

  pub passed-small : (n : ℕ) → pairs_from s t w n 0 ≡ Ok tt → (i : ℕ) → i < n → (s i ≤ 999) × (t i ≤ 999)
  passed-small n e i h = claims-small (s i) (t i) (w i) (claims-passed n 0 e i (omega arith) (omega arith))

  pub pairs-kept : (w' : ℕ → ℕ) (n : ℕ) → ((i : ℕ) → i < n → w i ≡ 0 → w' i ≡ 0)
      → (left i : ℕ) → i + left ≤ n → pairs_from s t w left i ≡ Ok tt → pairs_from s t w' left i ≡ Ok tt
  unfolding pairs_from
  pairs-kept w' n z zero i h e = refl
  pairs-kept w' n z (suc left) i h e =
      let f = first-passed left i e in
      let c = claims-good (s i) (t i) (w' i) (claims-kept (s i) (t i) (w i) f.0 (w' i) (z i (omega arith))) in
      rw (c, f.1) (pairs-kept w' n z left (i + 1) (omega arith) f.2)
