-- The rows that remain: one row more, the places of those before it, and all or none. Assumes nothing.
use mathlib.Core.Path.{◌≡◌, refl, sym, ap, ◌∙◌}
use mathlib.Core.Bool.{Bool, true, false, cond}
use mathlib.Core.List.{List, [], ◌∷◌, ◌++◌, append-nil}
use Prim.Native.Nat.{ℕ, zero, suc, ◌+◌, ◌≤◌, ◌<◌}
use native.Mathlib.Nat.{le_refl, add-zero}
use native.Mathlib.Numerals.{add-one}
use native.Mathlib.Decide.{dec_lt}
use native.Mathlib.Omega.{arith}
use lib.ListN.{length, get_or, length-append, get_or-append}
use lib.Seq.{get_or-append-add}
use Rattle.arrays.specs.Part.{tab}
use Rattle.sheet.specs.Rows.{left_of, cancelled, remaining}

module _ (b : List ℕ) (p : ℕ) where
  -- how many of the first i rows remain: the place in the matrix where row i goes
  abbrev pub place : ℕ → ℕ
  place i = length (remaining b p i)

  pub none : ◌≡◌ {A = ℕ} 0 (place 0)
  unfolding left_of
  none = refl

  -- ---- one row more: it remains, or not

  row_more : (i : ℕ) → cancelled b p i ≡ false → remaining b p (i + 1) ≡ remaining b p i ++ (i ∷ [])
  unfolding left_of
  row_more i e = rw (add-one i, e)

  row-gone : (i : ℕ) → cancelled b p i ≡ true → remaining b p (i + 1) ≡ remaining b p i
  unfolding left_of
  row-gone i e = rw (add-one i, e) (append-nil (remaining b p i))

  -- ---- places

  pub place-next : (i : ℕ) (t : Bool) → cancelled b p i ≡ t → place (i + 1) ≡ cond t (place i) (place i + 1)
  place-next i true e = ap length (row-gone i e)
  place-next i false e = ap length (row_more i e) ∙ length-append (remaining b p i) (i ∷ [])

  place_up : (i : ℕ) (t : Bool) → cancelled b p i ≡ t → (place i ≤ place (i + 1)) × (place (i + 1) ≤ place i + 1)
  place_up i true e =
      let q = place-next i true e in
      (omega arith, omega arith)
  place_up i false e =
      let q = place-next i false e in
      (omega arith, omega arith)

  pub place-most : (i : ℕ) → place i ≤ i
  unfolding left_of
  place-most zero = le_refl 0
  place-most (suc i) =
      let u = place_up i (cancelled b p i) refl in
      let h = place-most i in
      let e : place (suc i) ≡ place (i + 1) = ap place (sym (add-one i)) in
      omega arith

  place-rises : (i n : ℕ) → i ≤ n → place i ≤ place n
  place-rises i zero h =
      let e : i ≡ 0 = omega arith in
      rw e (le_refl (place 0))
  place-rises i (suc n) h = go (dec_lt n i) (λ l. place-rises i n l) where
    go : Dec (n < i) → (i ≤ n → place i ≤ place n) → place i ≤ place (suc n)
    go (yes l) rec =
        let e : i ≡ suc n = omega arith in
        rw e (le_refl (place (suc n)))
    go (no l) rec =
        let r = rec (omega (arith, l)) in
        let u = place_up n (cancelled b p n) refl in
        rw (← add-one n) (omega arith)

  -- row i has a place among those of n rows, and stands there
  pub room_for : (i n : ℕ) → i < n → cancelled b p i ≡ false → place i < place n
  room_for i n h e =
      let q = place-next i false e in
      let r = place-rises (i + 1) n (omega arith) in
      omega arith

  stays : (i k : ℕ) → k < place i → get_or (remaining b p (suc i)) k 0 ≡ get_or (remaining b p i) k 0
  unfolding left_of
  stays i k h = get_or-append (remaining b p i) (cond (cancelled b p i) [] (i ∷ [])) 0 k h

  stands : (i n k : ℕ) → i ≤ n → k < place i → get_or (remaining b p n) k 0 ≡ get_or (remaining b p i) k 0
  stands i zero k h l =
      let e : i ≡ 0 = omega arith in
      rw e
  stands i (suc n) k h l = go (dec_lt n i) (λ m. stands i n k m l) where
    go : Dec (n < i) → (i ≤ n → get_or (remaining b p n) k 0 ≡ get_or (remaining b p i) k 0) → get_or (remaining b p (suc n)) k 0 ≡ get_or (remaining b p i) k 0
    go (yes m) rec =
        let e : i ≡ suc n = omega arith in
        rw e
    go (no m) rec =
        let r = place-rises i n (omega (arith, m)) in
        stays n k (omega arith) ∙ rec (omega (arith, m))

  pub stands-there : (i n : ℕ) → i < n → cancelled b p i ≡ false → get_or (remaining b p n) (place i) 0 ≡ i
  stands-there i n h e =
      stands (i + 1) n (place i) (omega arith) (omega (arith, place-next i false e))
      ∙ ap (λ (l : List ℕ). get_or l (place i) 0) (row_more i e)
      ∙ ap (λ (k : ℕ). get_or (remaining b p i ++ (i ∷ [])) k 0) (sym (add-zero (place i)))
      ∙ get_or-append-add (remaining b p i) (i ∷ []) 0 0

  -- what remains is one of the rows, and not cancelled
  abbrev Uncancelled : ℕ → ℕ → Type 0
  Uncancelled n k = (get_or (remaining b p n) k 0 < n) × (cancelled b p (get_or (remaining b p n) k 0) ≡ false)

  pub uncancelled : (n k : ℕ) → k < place n → Uncancelled n k
  unfolding left_of
  uncancelled zero k h = absurd (omega arith)
  uncancelled (suc n) k h = go (dec_lt k (place n)) (cancelled b p n) refl (uncancelled n k) where
    more : place (suc n) ≡ place (n + 1)
    more = ap place (sym (add-one n))

    go : Dec (k < place n) → (t : Bool) → cancelled b p n ≡ t → (k < place n → Uncancelled n k) → Uncancelled (suc n) k
    go (yes l) t e rec =
        let r = rec l in
        rw (stays n k l) (omega (arith, r.0), r.1)
    go (no l) true e rec = absurd (omega (arith, l, h, more, place-next n true e))
    go (no l) false e rec =
        let m : k ≡ place n = omega (arith, l, h, more, place-next n false e) in
        let s : get_or (remaining b p (suc n)) k 0 ≡ n = rw m (stands-there n (suc n) (le_refl (suc n)) e) in
        rw s (le_refl (suc n), e)

  -- ---- none cancelled, or all

  pub all-remain : (n : ℕ) → ((i : ℕ) → i < n → cancelled b p i ≡ false) → remaining b p n ≡ tab (λ i. i) n
  unfolding left_of tab
  all-remain zero h = refl
  all-remain (suc n) h = rw (h n (le_refl (suc n)), all-remain n (λ i l. h i (omega arith)))

  pub none-remain : (n : ℕ) → ((i : ℕ) → i < n → cancelled b p i ≡ true) → remaining b p n ≡ []
  unfolding left_of
  none-remain zero h = refl
  none-remain (suc n) h = rw (h n (le_refl (suc n)), none-remain n (λ i l. h i (omega arith)))

-- by the targets alone
pub same_left : (t t' : ℕ → ℕ) (n : ℕ) → ((i : ℕ) → i < n → t i ≡ t' i) → left_of t n ≡ left_of t' n
unfolding left_of
same_left t t' zero h = refl
same_left t t' (suc n) h = rw (h n (le_refl (suc n)), same_left t t' n (λ i l. h i (omega arith)))
