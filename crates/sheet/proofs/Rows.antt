-- The rows one after another: what the tests of one row say of the tests of those that are left. Assumes nothing.
use Rattle.std.specs.Prelude.{Result, ⊤, Ok, Err}
use mathlib.Core.Path.{◌≡◌, refl}
use mathlib.Core.Bool.{Bool, true, false}
use Prim.Native.Nat.{ℕ, zero, suc, ◌+◌, ◌-◌, ◌≤◌, ◌<◌}
use native.Mathlib.Omega.{arith}
use Rattle.refusal.specs.declared.Refusal.{Refusal}
use Rattle.sheet.specs.Rows.{ahead, claims_fine, rises, pairs_from}

module _ (s t w : ℕ → ℕ) where
  row_first : (left i : ℕ) (q u : Bool) → claims_fine (s i) (t i) (w i) ≡ q → rises s t i ≡ u
      → pairs_from s t w (suc left) i ≡ ahead (pairs_from s t w 1 i) (pairs_from s t w left (i + 1))
  unfolding pairs_from
  row_first left i true true c r = simp (c, r)
  row_first left i true false c r = simp (c, r)
  row_first left i false true c r = simp (c, r)
  row_first left i false false c r = simp (c, r)

  module _ (n i : ℕ) (h : i < n) (k : Result ⊤ Refusal) (e : k ≡ pairs_from s t w 1 i) where
    by_row : pairs_from s t w (n - i) i ≡ ahead k (pairs_from s t w (n - (i + 1)) (i + 1))
    by_row =
        let left : n - i ≡ suc (n - (i + 1)) = omega arith in
        rw (e, left) (row_first (n - (i + 1)) i (claims_fine (s i) (t i) (w i)) (rises s t i) refl refl)

    pub row-passed : k ≡ Ok tt → pairs_from s t w (n - i) i ≡ pairs_from s t w (n - (i + 1)) (i + 1)
    row-passed f = rw f at by_row

    pub row-refused : {r : Refusal} → k ≡ Err r → pairs_from s t w (n - i) i ≡ k
    row-refused f = rw f (rw f at by_row)

  pub none_left : (n i : ℕ) → n ≤ i → pairs_from s t w (n - i) i ≡ Ok tt
  unfolding pairs_from
  none_left n i h =
      let e : n - i ≡ 0 = omega arith in
      rw e

-- rows that have the same claims and scores
pub same-pairs : {s t w s' t' w' : ℕ → ℕ} (n : ℕ) → ((i : ℕ) → i < n → (s i ≡ s' i) × (t i ≡ t' i) × (w i ≡ w' i))
    → (left i : ℕ) → i + left ≤ n → pairs_from s t w left i ≡ pairs_from s' t' w' left i
unfolding pairs_from
same-pairs n e zero i h = refl
same-pairs {s} {t} {w} {s'} {t'} {w'} n e (suc left) i h =
    let l : i < n = omega arith in
    rw (rise i l, same-pairs {s = s} {t = t} {w = w} {s' = s'} {t' = t'} {w' = w'} n e left (i + 1) (omega arith), (e i l).0, (e i l).1, (e i l).2)
  where
    rise : (j : ℕ) → j < n → rises s t j ≡ rises s' t' j
    rise zero l = refl
    rise (suc j) l = rw ((e j (omega arith)).0, (e j (omega arith)).1, (e (suc j) l).0, (e (suc j) l).1)
