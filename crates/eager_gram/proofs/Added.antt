-- Rows of the design whose products are added to the lower triangle of the Gram: the sums of some rows, and of more. Assumes nothing.
use mathlib.Core.Path.{◌≡◌, refl, sym, ap, ◌∙◌}
use mathlib.Core.List.{List}
use Prim.Native.Nat.{ℕ, ◌+◌, ◌*◌, ◌≤◌, ◌<◌}
use native.Mathlib.Nat.{add-mul}
use native.Mathlib.Omega.{arith}
use lib.ListN.{length}
use lib.Ieee.{Float}
use Rattle.arrays.specs.Part.{put, tab}
use Rattle.arrays.specs.Sums.{◌!◌}
use Rattle.arrays.proofs.Folds.{fold-none, fold-ext, fold_on}
use Rattle.several.specs.Several.{gathered, added_of}
use Rattle.matrices.proofs.Lengths.{row_room}
use Rattle.gram_panels.specs.Panels.{mat, low, sum_at, carry}
use Rattle.gram_panels.proofs.Mats.{length-mat, mat-beyond, mat-in, mat-self, mat-ext, mat-mat, Striped, striped-more, beyond-rows}
use Rattle.eager_gram.specs.Added.{Added}

-- row r of the sums gets the products of `count` rows; before this turn it and these rows are as they were in s₀
pub entry-row-more : {s₀ : List Float} {g p at count : ℕ} {s : List Float} {r : ℕ} → Added s₀ g p at count → r < p → Striped s₀ g p low (carry s₀ g p at at p count) p s r
    → (t : List Float) → t ≡ put s (g + r * p) (tab (sum_at s (g + r * p) (at + r) at p count) (r + 1)) → Striped s₀ g p low (carry s₀ g p at at p count) p t (r + 1)
unfolding added_of gathered carry
entry-row-more {s₀} {g} {p} {at} {count} {s} {r} pre h w t e =
    let room = row_room r p p h in
    let same : (q : ℕ) → g + r * p ≤ q → s ! q ≡ s₀ ! q = λ q l. beyond-rows w q (λ z m. omega arith) l in
    striped-more w (r + 1) _ t h refl
    (λ c l.
    rw (same (g + r * p + c) (omega arith)) (fold-ext _ _ _ _ count (λ k m.
    rw (same (at + r + k * p) (omega arith), same (at + k * p + c) (omega arith)))))
    e

-- i of n rows from `at` are added to the lower triangle at g, and all else is as it was in s₀
pub record Summed (s₀ : List Float) (g p at n : ℕ) (s : List Float) (i : ℕ) : Type 0 where
  pub within : i ≤ n
  pub long : length s ≡ length s₀
  pub is : s ≡ mat s₀ g p low (carry s₀ g p at at p i) p

module _ {s₀ : List Float} {g p at n : ℕ} (pre : Added s₀ g p at n) where
  pub summed-none : Summed s₀ g p at n s₀ 0
  unfolding added_of gathered carry
  summed-none = record {
    within = omega arith;
    long = refl;
    is = sym (mat-self s₀ g p low (carry s₀ g p at at p 0) p (λ a l. omega (arith, row_room a p p l)) (λ a b l m. fold-none _ _ _));
  }

  module _ {s : List Float} {i : ℕ} (w : Summed s₀ g p at n s i) where
    -- the sums are those of i rows, and the rows, which lie above them, are as they were
    entry : (r c : ℕ) → r < p → c < low r → s ! (g + r * p + c) ≡ carry s₀ g p at at p i r c
    entry r c h l =
        rw w.is (mat-in s₀ g p low (carry s₀ g p at at p i) p r c (λ z m. omega arith) (omega (arith, row_room r p p h)) h l)

    above : (q : ℕ) → at ≤ q → s ! q ≡ s₀ ! q
    above q h = rw w.is (mat-beyond s₀ g p low (carry s₀ g p at at p i) p q (λ a l. omega (arith, row_room a p p l)))

    more : (k r c : ℕ) → r < p → c < low r → carry s g p (at + i * p) (at + i * p) p k r c ≡ carry s₀ g p at at p (i + k) r c
    unfolding added_of gathered carry
    more k r c h l =
        rw (entry r c h l) (fold-ext _ _ _ _ k (λ j m.
        let a : at + i * p + r + j * p ≡ at + r + (i + j) * p = omega (arith, add-mul i j p) in
        let b : at + i * p + j * p + c ≡ at + (i + j) * p + c = omega (arith, add-mul i j p) in
        rw (a, b, above (at + r + (i + j) * p) (omega arith), above (at + (i + j) * p + c) (omega arith)))
        ∙ fold_on _ _ _ i k)

    -- k rows more
    pub summed-more : {t : List Float} (k : ℕ) → i + k ≤ n → t ≡ mat s g p low (carry s g p (at + i * p) (at + i * p) p k) p → Summed s₀ g p at n t (i + k)
    summed-more {t} k h e =
        let f = carry s₀ g p at at p in
        let own = carry s g p (at + i * p) (at + i * p) p k in
        record {
          within = h;
          long = ap length e ∙ length-mat s g p low own p ∙ w.long;
          is =
              e ∙ mat-ext s g p low low own (f (i + k)) p (λ a l. refl) (λ r c l m. more k r c l m)
              ∙ ap (λ (r : List Float). mat r g p low (f (i + k)) p) w.is
              ∙ mat-mat s₀ g p low (f i) (f (i + k)) p (λ a l. omega arith);
        }

    pub summed-all : n ≤ i → s ≡ mat s₀ g p low (carry s₀ g p at at p n) p
    summed-all h =
        let e : i ≡ n = omega (arith, w.within) in
        rw e at w.is
