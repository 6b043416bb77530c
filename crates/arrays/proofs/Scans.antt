-- The scan for values that are not finite: its test, the scan of several lists in a row, and what a scan finds, element by element. Assumes nothing.
use mathlib.Core.Path.{◌≡◌, refl, sym, ap, subst}
use mathlib.Core.Logic.{◌⊎◌, inl, inr}
use mathlib.Core.Bool.{Bool, true, false, not, ◌&&◌}
use mathlib.Core.List.{List, [], ◌∷◌, ◌++◌}
use Prim.Native.Nat.{ℕ, zero, suc, ◌+◌, ◌<◌}
use lib.IntN.{ℤ}
use native.Mathlib.Nat.{add-zero}
use native.Mathlib.Decide.{dec_lt}
use native.Mathlib.Omega.{arith}
use lib.Dec.{T}
use lib.ListN.{length}
use lib.Ieee.{Float, nan, inf, fin, lt}
use lib.Ieee.Scale.{finite}
use Rattle.std.specs.Prelude.{Option, None, Some, is_none, MatchOption}
use Rattle.std.specs.List.{AllWithin, HoldsAt}
use Rattle.arrays.specs.Sums.{◌!◌}
use Rattle.arrays.specs.Scan.{first_infinite}

-- the code's `!`
pub denied : (b : Bool) → not b ≡ true → b ≡ false
denied true h = sym h
denied false h = refl

pub granted : (b : Bool) → not b ≡ false → b ≡ true
granted true h = refl
granted false h = sym h

pub above-minus : (x : Float) → lt (inf true) x ≡ true → lt x (inf false) ≡ finite x
unfolding lt
above-minus nan h = refl
above-minus (inf true) h = absurd (subst T (sym h) tt)
above-minus (inf false) h = refl
above-minus (fin s m e) h = refl

pub not-above : (x : Float) → lt (inf true) x ≡ false → false ≡ finite x
unfolding lt
not-above nan h = refl
not-above (inf s) h = refl
not-above (fin s m e) h = absurd (subst T h tt)

pub scan-bad : (i : ℕ) (x : Float) (xs : List Float) → finite x ≡ false → first_infinite i (x ∷ xs) ≡ Some i
unfolding first_infinite
scan-bad i nan xs h = refl
scan-bad i (inf s) xs h = refl
scan-bad i (fin s m e) xs h = absurd (subst T h tt)

pub scan_good : (i : ℕ) (x : Float) (xs : List Float) → finite x ≡ true → first_infinite i (x ∷ xs) ≡ first_infinite (i + 1) xs
unfolding first_infinite
scan_good i nan xs h = absurd (subst T (sym h) tt)
scan_good i (inf s) xs h = absurd (subst T (sym h) tt)
scan_good i (fin s m e) xs h = refl

-- ---- several lists in a row

-- what the first scan found, or else the second
abbrev pub or_else : Option ℕ → Option ℕ → Option ℕ
or_else None g = g
or_else (Some k) g = Some k

pub scan-append : (i : ℕ) (a b : List Float) → first_infinite i (a ++ b) ≡ or_else (first_infinite i a) (first_infinite (i + length a) b)
unfolding first_infinite
scan-append i [] b = rw add-zero
scan-append i (nan ∷ a) b = refl
scan-append i (inf s ∷ a) b = refl
scan-append i (fin s m e ∷ a) b =
    let l : i + 1 + length a ≡ i + suc (length a) = omega arith in
    rw (← l) (scan-append (i + 1) a b)

-- the same find, k places further on
abbrev pub further : ℕ → Option ℕ → Option ℕ
further k None = None
further k (Some i) = Some (k + i)

pub scan-further : (k i : ℕ) (a : List Float) → first_infinite (k + i) a ≡ further k (first_infinite i a)
unfolding first_infinite
scan-further k i [] = refl
scan-further k i (nan ∷ a) = refl
scan-further k i (inf s ∷ a) = refl
scan-further k i (fin s m e ∷ a) =
    let l : k + i + 1 ≡ k + (i + 1) = omega arith in
    rw l (scan-further k (i + 1) a)

pub scan-at : (k : ℕ) (a : List Float) → first_infinite k a ≡ further k (first_infinite 0 a)
scan-at k a =
    let e : k + 0 ≡ k = add-zero k in
    subst (λ (i : ℕ). first_infinite i a ≡ further k (first_infinite 0 a)) e (scan-further k 0 a)

-- a find is within the list
abbrev pub Below : Option ℕ → ℕ → Type 0
Below None n = Unit
Below (Some k) n = k < n

pub scan-below : (i : ℕ) (a : List Float) → Below (first_infinite i a) (i + length a)
unfolding first_infinite
scan-below i [] = tt
scan-below i (nan ∷ a) = omega arith
scan-below i (inf s ∷ a) = omega arith
scan-below i (fin s m e ∷ a) =
    let l : i + 1 + length a ≡ i + suc (length a) = omega arith in
    rw (← l) (scan-below (i + 1) a)

-- ---- what a scan finds, element by element

-- the element at i is the first that is not finite
pub record FirstBad (l : List Float) (i : ℕ) : Type 0 where
  pub within : i < length l
  pub bad : finite (l ! i) ≡ false
  pub good : (j : ℕ) → j < i → finite (l ! j) ≡ true

abbrev pub AllFinite : List Float → Type 0
AllFinite l = (j : ℕ) → j < length l → finite (l ! j) ≡ true

abbrev Finds : ℕ → List Float → Option ℕ → Type 0
Finds k l None = AllFinite l
Finds k l (Some i) = (d : ℕ) × (i ≡ k + d) × FirstBad l d

-- before a finite element
good_more : (s : Bool) (m : ℕ) (e : ℤ) (l : List Float) (n : ℕ) → ((j : ℕ) → j < n → finite (l ! j) ≡ true)
    → (j : ℕ) → j < suc n → finite ((fin s m e ∷ l) ! j) ≡ true
good_more s m e l n h zero g = refl
good_more s m e l n h (suc j) g = h j (omega arith)

finds-more : (k : ℕ) (s : Bool) (m : ℕ) (e : ℤ) (l : List Float) (f : Option ℕ) → Finds (k + 1) l f → Finds k (fin s m e ∷ l) f
finds-more k s m e l None h = good_more s m e l (length l) h
finds-more k s m e l (Some i) h =
    (suc h.0, omega (arith, h.1), record { within = omega (arith, h.2.within); bad = h.2.bad; good = good_more s m e l h.0 h.2.good })

finds : (k : ℕ) (l : List Float) → Finds k l (first_infinite k l)
unfolding first_infinite
finds k [] = λ j g. absurd (omega arith)
finds k (nan ∷ l) = (0, omega arith, record { within = omega arith; bad = refl; good = λ j g. absurd (omega arith) })
finds k (inf s ∷ l) = (0, omega arith, record { within = omega arith; bad = refl; good = λ j g. absurd (omega arith) })
finds k (fin s m e ∷ l) = finds-more k s m e l (first_infinite (k + 1) l) (finds (k + 1) l)

pub opposed : (t : Bool) → t ≡ false → t ≡ true → ⊥
opposed t h g =
    let z : ◌≡◌ {A = ℕ} 0 1 = cc in
    omega arith

first-once : (l : List Float) (d i : ℕ) → FirstBad l d → FirstBad l i → d ≡ i
first-once l d i h g = go (dec_lt d i) (dec_lt i d) where
  go : Dec (d < i) → Dec (i < d) → d ≡ i
  go (yes q) r = absurd (opposed (finite (l ! d)) h.bad (g.good d q))
  go (no q) (yes r) = absurd (opposed (finite (l ! i)) g.bad (h.good i r))
  go (no q) (no r) = omega (arith, q, r)

pub scan-first : (l : List Float) (i : ℕ) → FirstBad l i → first_infinite 0 l ≡ Some i
scan-first l i h = go (first_infinite 0 l) (finds 0 l) where
  go : (f : Option ℕ) → Finds 0 l f → f ≡ Some i
  go None g = absurd (opposed (finite (l ! i)) h.bad (g i h.within))
  go (Some k) g =
      let e = first-once l g.0 i g.2 h in
      ap Some (omega (arith, g.1))

pub scan-clean : (l : List Float) → AllFinite l → first_infinite 0 l ≡ None
scan-clean l h = go (first_infinite 0 l) (finds 0 l) where
  go : (f : Option ℕ) → Finds 0 l f → f ≡ None
  go None g = refl
  go (Some k) g = absurd (opposed (finite (l ! g.0)) g.2.bad (h g.0 g.2.within))

-- each list has a first element that is not finite, or none
pub scan-known : (l : List Float) → AllFinite l ⊎ ((i : ℕ) × FirstBad l i)
scan-known l = go (first_infinite 0 l) (finds 0 l) where
  go : (f : Option ℕ) → Finds 0 l f → AllFinite l ⊎ ((i : ℕ) × FirstBad l i)
  go None g = inl g
  go (Some k) g = inr (g.0, g.2)

-- what `position` answers for the elements that are not finite
pub found-by : (l : List Float) (r : Option ℕ)
    → MatchOption r (AllWithin (λ x. finite x ≡ true) l 0 (length l)) (λ i. (i < length l) × HoldsAt (λ x. finite x ≡ false) l i × AllWithin (λ x. finite x ≡ true) l 0 i)
    → r ≡ first_infinite 0 l
found-by l None h = sym (scan-clean l (λ j g. h j nan (omega arith) g))
found-by l (Some i) h = sym (scan-first l i (record { within = h.0; bad = h.1 nan; good = λ j g. h.2 j nan (omega arith) g }))

-- one more element in the loop that goes through all
pub clean-more : (l : List Float) (x : Float) → is_none (first_infinite 0 (l ++ x ∷ [])) ≡ is_none (first_infinite 0 l) && finite x
unfolding first_infinite
clean-more l x = rw (scan-append 0 l (x ∷ [])) (go (first_infinite 0 l) x) where
  go : (f : Option ℕ) (x : Float) → is_none (or_else f (first_infinite (0 + length l) (x ∷ []))) ≡ is_none f && finite x
  go None nan = refl
  go None (inf s) = refl
  go None (fin s m e) = refl
  go (Some k) x = refl
