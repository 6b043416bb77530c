-- The refusals of the rows and of the lent slices as what holds and not as tests, and each test by them. Assumes nothing.
use Rattle.std.specs.Prelude.{Result, ⊤, Ok, Err}
use mathlib.Core.Path.{◌≡◌, refl, sym, ◌∙◌}
use mathlib.Core.Logic.{◌⊎◌, inl, inr}
use mathlib.Core.Bool.{Bool, true, false, ◌&&◌, ◌||◌}
use mathlib.Core.List.{List}
use Prim.Native.Nat.{ℕ, zero, suc, ◌+◌, ◌-◌, ◌*◌, ◌≤◌, ◌<◌}
use native.Mathlib.Numerals.{add-one}
use native.Mathlib.Decide.{dec_lt}
use native.Mathlib.Omega.{arith}
use lib.Dec.{ltb, eqb}
use borrow.Author.Tests.{ltb-true, leb-true, eqb-true, lt-ltb, le-leb, eq-eqb}
use Rattle.refusal.specs.declared.Refusal.{Refusal}
use Rattle.refusal.specs.declared.Refusal.TheVariants.{Size, Length, Claim, Pair}
use Rattle.refusal.proofs.Asking.{refuted, known_by, both_true, ask-fine}
use Rattle.refusal.specs.Sizes.{in_size}
use Rattle.refusal.proofs.Sizes.{InSize, size-good, size_of}
use Rattle.sheet_header.specs.Header.{p_of}
use Rattle.sheet.specs.Rows.{source_of, target_of, score_bits, is_claim, claims_fine, above, rises, pairs_from, room_check}
use Rattle.sheet.proofs.Rows.{row-passed, row-refused}

-- ---- rows, by their sources, their targets and the bits of their scores

-- 14: the source is from 1 to 999; so is the target, or the claim is cancelled: then the target is 0, and so are all bits of the score
pub record Claims (source target score : ℕ) : Type 0 where
  pub source-least : 1 ≤ source
  pub source-most : source ≤ 999
  pub target-fine : ((1 ≤ target) × (target ≤ 999)) ⊎ ((target ≡ 0) × (score ≡ 0))

abbrev pub ClaimsAt : (ℕ → ℕ) → (ℕ → ℕ) → (ℕ → ℕ) → ℕ → Type 0
ClaimsAt source target score i = Claims (source i) (target i) (score i)

-- 15: the pair of row i is above that of row j before it, by the source first; row 0 has none before it
abbrev pub Above : ℕ → ℕ → ℕ → ℕ → Type 0
Above s t s' t' = (s < s') ⊎ ((s ≡ s') × (t < t'))

abbrev pub RisesAt : (ℕ → ℕ) → (ℕ → ℕ) → ℕ → Type 0
RisesAt source target i = (j : ℕ) → i ≡ j + 1 → Above (source j) (target j) (source i) (target i)

-- neither of them in the first k rows
abbrev pub FineBefore : (ℕ → ℕ) → (ℕ → ℕ) → (ℕ → ℕ) → ℕ → Type 0
FineBefore source target score k = (j : ℕ) → j < k → ClaimsAt source target score j × RisesAt source target j

-- the first of n rows with 14, or with 15
abbrev pub BadAmong : (ℕ → ℕ) → (ℕ → ℕ) → (ℕ → ℕ) → ℕ → Type 0
BadAmong source target score n =
    (i : ℕ)
    × (i < n)
    × FineBefore source target score i
    × ((ClaimsAt source target score i → ⊥) ⊎ (ClaimsAt source target score i × (RisesAt source target i → ⊥)))

-- the rows of a body
abbrev pub RowClaims : List ℕ → ℕ → Type 0
RowClaims b i = ClaimsAt (source_of b (p_of b)) (target_of b (p_of b)) (score_bits b (p_of b)) i

abbrev pub Rises : List ℕ → ℕ → Type 0
Rises b i = RisesAt (source_of b (p_of b)) (target_of b (p_of b)) i

abbrev pub RowsFine : List ℕ → ℕ → Type 0
RowsFine b k = FineBefore (source_of b (p_of b)) (target_of b (p_of b)) (score_bits b (p_of b)) k

abbrev pub BadRow : List ℕ → ℕ → Type 0
BadRow b n = BadAmong (source_of b (p_of b)) (target_of b (p_of b)) (score_bits b (p_of b)) n

or-true : (a : Bool) → a || true ≡ true
or-true true = refl
or-true false = refl

above_good : (s t s' t' : ℕ) → Above s t s' t' → above s t s' t' ≡ true
above_good s t s' t' (inl h) = rw (lt-ltb s s' h)
above_good s t s' t' (inr h) = rw (eq-eqb s s' h.0, lt-ltb t t' h.1) (or-true (ltb s s'))

above_of : (s t s' t' : ℕ) → above s t s' t' ≡ true → Above s t s' t'
above_of s t s' t' = go (ltb s s') refl where
  go : (a : Bool) → ltb s s' ≡ a → a || (eqb s s' && ltb t t') ≡ true → Above s t s' t'
  go true e h = inl (ltb-true s s' e)
  go false e h =
      let t = both_true _ _ h in
      inr (eqb-true s s' t.0, ltb-true _ _ t.1)

module _ (s t w : ℕ) where
  pub claims-good : Claims s t w → claims_fine s t w ≡ true
  unfolding claims_fine
  claims-good c = rw (le-leb 1 s c.source-least, le-leb s 999 c.source-most) (go c.target-fine) where
    go : ((1 ≤ t) × (t ≤ 999)) ⊎ ((t ≡ 0) × (w ≡ 0)) → is_claim t || (eqb t 0 && eqb w 0) ≡ true
    go (inl h) = rw (le-leb 1 t h.0, le-leb t 999 h.1)
    go (inr h) = rw (eq-eqb t 0 h.0, eq-eqb w 0 h.1) (or-true (is_claim t))

  target-of : (a : Bool) → is_claim t ≡ a → a || (eqb t 0 && eqb w 0) ≡ true → ((1 ≤ t) × (t ≤ 999)) ⊎ ((t ≡ 0) × (w ≡ 0))
  target-of true e h =
      let u = both_true _ _ e in
      inl (leb-true _ _ u.0, leb-true _ _ u.1)
  target-of false e h =
      let u = both_true _ _ h in
      inr (eqb-true _ _ u.0, eqb-true _ _ u.1)

  pub claims-of : claims_fine s t w ≡ true → Claims s t w
  unfolding claims_fine
  claims-of h =
      let u = both_true _ _ h in
      let v = both_true _ _ u.0 in
      record { source-least = leb-true _ _ v.0; source-most = leb-true _ _ v.1; target-fine = target-of (is_claim t) refl u.1 }

module _ (s t w : ℕ → ℕ) where
  one_more : {n : ℕ} → FineBefore s t w n → ClaimsAt s t w n → RisesAt s t n → FineBefore s t w (suc n)
  one_more {n} f c r j l = go (dec_lt j n) where
    go : Dec (j < n) → ClaimsAt s t w j × RisesAt s t j
    go (yes h) = f j h
    go (no h) =
        let e : n ≡ j = omega (arith, h) in
        (rw e at c, rw e at r)

  rises-good : (i : ℕ) → RisesAt s t i → rises s t i ≡ true
  rises-good zero h = refl
  rises-good (suc i) h = above_good _ _ _ _ (h i (omega arith))

  rises-of : (i : ℕ) → rises s t i ≡ true → RisesAt s t i
  rises-of zero h j e = absurd (omega arith)
  rises-of (suc i) h j e =
      let q : j ≡ i = omega arith in
      rw q (above_of _ _ _ _ h)

  claims-known : (i : ℕ) → Dec (ClaimsAt s t w i)
  claims-known i = known_by (claims-of _ _ _) (claims-good _ _ _)

  rises-known : (i : ℕ) → Dec (RisesAt s t i)
  rises-known i = known_by (rises-of i) (rises-good i)

  pub rows-known : (n : ℕ) → FineBefore s t w n ⊎ BadAmong s t w n
  rows-known zero = inl (λ j l. absurd (omega arith))
  rows-known (suc n) = more (rows-known n) (claims-known n) (rises-known n) where
    more : FineBefore s t w n ⊎ BadAmong s t w n → Dec (ClaimsAt s t w n) → Dec (RisesAt s t n) → FineBefore s t w (suc n) ⊎ BadAmong s t w (suc n)
    more (inr u) c r = inr (u.0, omega (arith, u.1), u.2, u.3)
    more (inl f) (no c) r = inr (n, omega arith, f, inl c)
    more (inl f) (yes c) (no r) = inr (n, omega arith, f, inr (c, r))
    more (inl f) (yes c) (yes r) = inl (one_more f c r)

  -- a row alone
  row_fine : (i : ℕ) → ClaimsAt s t w i → RisesAt s t i → pairs_from s t w 1 i ≡ Ok tt
  unfolding pairs_from
  row_fine i c r = rw (claims-good _ _ _ c, rises-good i r)

  row-claim : (i : ℕ) → (ClaimsAt s t w i → ⊥) → pairs_from s t w 1 i ≡ Err (Claim i)
  unfolding pairs_from
  row-claim i h = rw (refuted (claims_fine (s i) (t i) (w i)) (λ e. h (claims-of _ _ _ e)))

  row-pair : (i : ℕ) → ClaimsAt s t w i → (RisesAt s t i → ⊥) → pairs_from s t w 1 i ≡ Err (Pair i)
  unfolding pairs_from
  row-pair i c h = rw (claims-good _ _ _ c, refuted (rises s t i) (λ e. h (rises-of i e)))

  module _ (n : ℕ) where
    -- the rows before row i are passed
    rows-passed : (i : ℕ) → i ≤ n → FineBefore s t w i → pairs_from s t w n 0 ≡ pairs_from s t w (n - i) i
    rows-passed zero h f =
        let e : n - 0 ≡ n = omega arith in
        rw e
    rows-passed (suc i) h f =
        let row = f i (omega arith) in
        rows-passed i (omega arith) (λ j l. f j (omega arith))
        ∙ rw (← add-one i) (row-passed s t w n i h (pairs_from s t w 1 i) refl (row_fine i row.0 row.1))

    first-bad : (i : ℕ) → i < n → FineBefore s t w i → (q : Refusal) → pairs_from s t w 1 i ≡ Err q → pairs_from s t w n 0 ≡ Err q
    first-bad i h f q e = rows-passed i (omega arith) f ∙ row-refused s t w n i h (pairs_from s t w 1 i) refl e ∙ e

    pub bad-claim : (i : ℕ) → i < n → FineBefore s t w i → (ClaimsAt s t w i → ⊥) → pairs_from s t w n 0 ≡ Err (Claim i)
    bad-claim i h f c = first-bad i h f (Claim i) (row-claim i c)

    pub bad-pair : (i : ℕ) → i < n → FineBefore s t w i → ClaimsAt s t w i → (RisesAt s t i → ⊥) → pairs_from s t w n 0 ≡ Err (Pair i)
    bad-pair i h f c r = first-bad i h f (Pair i) (row-pair i c r)

    pub good-rows : FineBefore s t w n → pairs_from s t w n 0 ≡ Ok tt
    unfolding pairs_from
    good-rows f =
        let e : n - n ≡ 0 = omega arith in
        rows-passed n (omega arith) f ∙ rw e

-- ---- the lent slices

-- 2
pub record Lengths (n p xl yl : ℕ) : Type 0 where
  pub matrix : xl ≡ n * p
  pub targets : yl ≡ n

module _ (n p xl yl : ℕ) where
  abbrev length-test : Bool
  length-test = eqb xl (n * p) && eqb yl n

  length-of : length-test ≡ true → Lengths n p xl yl
  length-of h =
      let t = both_true _ _ h in
      record { matrix = eqb-true _ _ t.0; targets = eqb-true _ _ t.1 }

  length-good : Lengths n p xl yl → length-test ≡ true
  length-good l = rw (eq-eqb _ _ l.matrix, eq-eqb _ _ l.targets)

  pub lengths-known : Dec (Lengths n p xl yl)
  lengths-known = known_by length-of length-good

  pub lengths-fine : (k : Result ⊤ Refusal) → k ≡ room_check n p xl yl → k ≡ Ok tt → Lengths n p xl yl
  unfolding room_check
  lengths-fine k e f = length-of (ask-fine length-test Length _ (ask-fine (in_size n p) Size _ (sym e ∙ f)).1).0

  pub bad-size : (InSize n p → ⊥) → room_check n p xl yl ≡ Err Size
  unfolding room_check
  bad-size h = rw (refuted (in_size n p) (λ t. h (size_of n p t)))

  pub bad-length : InSize n p → (Lengths n p xl yl → ⊥) → room_check n p xl yl ≡ Err Length
  unfolding room_check
  bad-length z h = rw (size-good n p z, refuted length-test (λ t. h (length-of t)))

  pub good-room : InSize n p → Lengths n p xl yl → room_check n p xl yl ≡ Ok tt
  unfolding room_check
  good-room z l = rw (size-good n p z, length-good l)
