-- Laws of `Like`, lists that are the same but for the panels. Assumes nothing.
use mathlib.Core.Path.{◌≡◌, refl, sym, ap, ◌∙◌, subst}
use mathlib.Core.Logic.{◌⊎◌, inl, inr, ⊎_elim}
use mathlib.Core.List.{List}
use Prim.Native.Nat.{ℕ, zero, suc, ◌+◌, ◌-◌, ◌*◌, ◌≤◌, ◌<◌}
use native.Mathlib.Nat.{le_trans}
use native.Mathlib.Decide.{dec_lt}
use native.Mathlib.Omega.{arith}
use lib.ListN.{length}
use lib.Seq.{ext_get_or}
use lib.Ieee.{Float, nan}
use Rattle.arrays.specs.Part.{put, tab}
use Rattle.arrays.proofs.Part.{length-put, length-tab, part-put-same, get_or-part, get_or-put-above, get_or-put-below}
use Rattle.arrays.specs.Sums.{◌!◌}
use Rattle.gram_panels.specs.Panels.{mat}
use Rattle.gram_panels.proofs.Mats.{length-mat, mat-below, mat-beyond}
use Rattle.lazy_gram.specs.Nest.{Like}

get_or-put-in : (s : List Float) (q : ℕ) (xs : List Float) (i : ℕ) → q + length xs ≤ length s → i < length xs → put s q xs ! (q + i) ≡ xs ! i
get_or-put-in s q xs i l h =
    sym (get_or-part (put s q xs) q (length xs) i nan h) ∙ ap (λ (r : List Float). r ! i) (part-put-same s q xs (length xs) refl l)

put-like : (s t : List Float) (q : ℕ) (xs : List Float) (j : ℕ) → length s ≡ length t → q + length xs ≤ length s
    → ((j < q) ⊎ (q + length xs ≤ j) → s ! j ≡ t ! j) → put s q xs ! j ≡ put t q xs ! j
put-like s t q xs j e l h = go (dec_lt j q) (dec_lt j (q + length xs)) where
  go : Dec (j < q) → Dec (j < q + length xs) → put s q xs ! j ≡ put t q xs ! j
  go (yes a) b = get_or-put-above s q xs j nan a ∙ h (inl a) ∙ sym (get_or-put-above t q xs j nan a)
  go (no a) (no b) =
      let k : q + length xs ≤ j = omega (arith, b) in
      get_or-put-below s q xs j nan k ∙ h (inr k) ∙ sym (get_or-put-below t q xs j nan k)
  go (no a) (yes b) =
      let e1 : q + (j - q) ≡ j = omega (arith, a) in
      let k : j - q < length xs = omega (arith, a) in
      let l2 : q + length xs ≤ length t = omega arith in
      subst (λ (i : ℕ). put s q xs ! i ≡ put t q xs ! i) e1 (get_or-put-in s q xs (j - q) l k ∙ sym (get_or-put-in t q xs (j - q) l2 k))

module _ (le en : ℕ) where
  pub like-refl : (s : List Float) → Like le en s s
  like-refl s = record { len = refl; low = λ q h. refl; high = λ q h. refl }

  pub like-trans : (s t u : List Float) → Like le en s t → Like le en t u → Like le en s u
  like-trans s t u a b = record { len = a.len ∙ b.len; low = λ q h. a.low q h ∙ b.low q h; high = λ q h. a.high q h ∙ b.high q h }

  like-put : (s t : List Float) (q : ℕ) (xs : List Float) → q + length xs ≤ length s → Like le en s t → Like le en (put s q xs) (put t q xs)
  like-put s t q xs l h = record {
    len = length-put s q xs ∙ h.len ∙ sym (length-put t q xs);
    low = λ j m. put-like s t q xs j h.len l (λ z. h.low j m);
    high = λ j m. put-like s t q xs j h.len l (λ z. h.high j m);
  }

  pub like-mat : (s t : List Float) (at p : ℕ) (w : ℕ → ℕ) (f : ℕ → ℕ → Float) (n : ℕ) → ((a : ℕ) → a < n → at + a * p + w a ≤ length s)
      → Like le en s t → Like le en (mat s at p w f n) (mat t at p w f n)
  unfolding mat
  like-mat s t at p w f zero hl h = h
  like-mat s t at p w f (suc n) hl h =
      like-put (mat s at p w f n) (mat t at p w f n) (at + n * p) (tab (f n) (w n)) (simp (length-tab, length-mat) (hl n (omega arith)))
      (like-mat s t at p w f n (λ a m. hl a (omega arith)) h)

  -- rows that lie between the two
  pub like-panel : (s : List Float) (at p : ℕ) (w : ℕ → ℕ) (f : ℕ → ℕ → Float) (n : ℕ) → le ≤ at → ((a : ℕ) → a < n → at + a * p + w a ≤ en)
      → Like le en (mat s at p w f n) s
  like-panel s at p w f n h hl = record {
    len = length-mat s at p w f n;
    low = λ q m. mat-below s at p w f n q (omega arith);
    high = λ q m. mat-beyond s at p w f n q (λ a k. le_trans (hl a k) m);
  }

  -- once what lies between is written, they are the same
  pub like-clear : (s t xs : List Float) → le + length xs ≡ en → en ≤ length s → Like le en s t → put s le xs ≡ put t le xs
  like-clear s t xs e l h =
      let l2 : le + length xs ≤ length s = omega arith in
      ext_get_or nan (put s le xs) (put t le xs) (length-put s le xs ∙ h.len ∙ sym (length-put t le xs))
      (λ j m. put-like s t le xs j h.len l2 (λ z. ⊎_elim (λ a. h.low j a) (λ b. h.high j (omega arith)) z))

-- the same but for less, or the same but for more
pub like-wide : {le en : ℕ} {s t : List Float} (le₁ en₁ : ℕ) → le₁ ≤ le → en ≤ en₁ → Like le en s t → Like le₁ en₁ s t
like-wide le₁ en₁ h k a = record { len = a.len; low = λ q m. a.low q (omega arith); high = λ q m. a.high q (omega arith) }
