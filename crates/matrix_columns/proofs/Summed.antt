-- The sums of a transposed product while rows of its matrix are added to them: of no row, and of some more. They lie beside the matrix or in another list.
-- Assumes nothing.
use mathlib.Core.Path.{◌≡◌, refl, sym, ap, ◌∙◌}
use mathlib.Core.List.{List}
use Prim.Native.Nat.{ℕ, ◌+◌, ◌*◌, ◌≤◌, ◌<◌}
use native.Mathlib.Nat.{add-mul}
use native.Mathlib.Omega.{arith}
use lib.ListN.{length}
use lib.Ieee.{Float, binary64, nan, add, mul}
use Rattle.arrays.specs.Part.{part, put, tab}
use Rattle.arrays.proofs.Part.{tab-ext, get_or-part, get_or-put-tab}
use Rattle.arrays.specs.Sums.{◌!◌, plus0}
use Rattle.arrays.proofs.Folds.{fold-none, fold-ext, fold_on}
use Rattle.arrays.proofs.Commute.{times-comm}
use Rattle.arrays.specs.Vectors.{Clear, zip_of, fill_of}
use Rattle.several.specs.Several.{gathered, added_of}
use Rattle.arrays.proofs.Turns.{Made, made_of, made_again, part-kept}
use Rattle.several.proofs.Added.{added-one}
use Rattle.matrices.specs.Products.{column_product, Together}
use Rattle.matrices.proofs.Lengths.{row_room}

-- the product of column j of the first i of all rows of s's matrix
abbrev pub summed : List Float → ℕ → ℕ → ℕ → ℕ → ℕ → ℕ → Float
summed s mat rows cols v i j = column_product (part s mat (rows * cols)) i cols (part s v rows) j

-- s has the matrix and the vector of s₀
pub record Alike (s₀ s : List Float) (mat rows cols v : ℕ) : Type 0 where
  pub matrix : part s mat (rows * cols) ≡ part s₀ mat (rows * cols)
  pub vector : part s v rows ≡ part s₀ v rows

module _ {s₀ : List Float} {mat rows cols v out : ℕ} (pre : Together s₀ mat (rows * cols) v rows out cols) where
  -- a row of the matrix, and each of four from row i, lies off the sums
  pub clear-row : (i : ℕ) → i < rows → Clear out (mat + i * cols) cols
  clear-row i h l u = absurd (omega (arith, row_room i rows cols h, pre.off-matrix (omega (arith, row_room i rows cols h))))

  pub clear-rows : (i k : ℕ) → i + k < rows → Clear out (mat + i * cols + k * cols) cols
  clear-rows i k h =
      let e : mat + i * cols + k * cols ≡ mat + (i + k) * cols = omega (arith, add-mul i k cols) in
      rw e (clear-row (i + k) h)

  -- matrix and vector are as they were, whatever the sums
  pub alike : {f : ℕ → Float} {s : List Float} {n : ℕ} → Made s₀ out cols f s n → Alike s₀ s mat rows cols v
  alike d = record { matrix = part-kept d mat (rows * cols) pre.off-matrix; vector = part-kept d v rows pre.off-vector }

pub summed-none : (s₀ : List Float) (mat rows cols v : ℕ) (t₀ t : List Float) (out : ℕ) → t ≡ put t₀ out (fill_of plus0 cols)
    → Made t₀ out cols (summed s₀ mat rows cols v 0) t cols
unfolding fill_of
summed-none s₀ mat rows cols v t₀ t out e = made_of t₀ out cols _ t (e ∙ ap (put t₀ out) (tab-ext _ _ cols (λ j l. sym (fold-none _ _ _))))

module _ {s₀ s : List Float} {mat rows cols v : ℕ} (a : Alike s₀ s mat rows cols v) where
  element-of : (i : ℕ) → i < rows → s ! (v + i) ≡ part s₀ v rows ! i
  element-of i h = sym (get_or-part s v rows i nan h) ∙ ap (λ (xs : List Float). xs ! i) a.vector

  entry_of : (i j : ℕ) → i < rows → j < cols → s ! (mat + i * cols + j) ≡ part s₀ mat (rows * cols) ! (i * cols + j)
  entry_of i j h l =
      let u : i * cols + j < rows * cols = omega (arith, row_room i rows cols h) in
      let place : mat + i * cols + j ≡ mat + (i * cols + j) = omega arith in
      rw place (sym (get_or-part s mat (rows * cols) (i * cols + j) nan u) ∙ ap (λ (xs : List Float). xs ! (i * cols + j)) a.matrix)

  module _ {t₀ t : List Float} {out : ℕ} (i : ℕ) (d : Made t₀ out cols (summed s₀ mat rows cols v i) t cols) (room : out + cols ≤ length t₀) where
    -- n rows more
    pub summed-more : (n : ℕ) → i + n ≤ rows → (g : ℕ → Float) → ((k : ℕ) → k < n → g k ≡ s ! (v + (i + k))) → (u : List Float)
        → u ≡ put t out (tab (added_of t out s g (mat + i * cols) cols n) cols) → Made t₀ out cols (summed s₀ mat rows cols v (i + n)) u cols
    unfolding added_of gathered
    summed-more n h g is u q =
        made_again d _ u (q ∙ ap (put t out) (tab-ext _ _ cols (λ j l.
        let begun : t ! (out + j) ≡ summed s₀ mat rows cols v i j = rw d.is (get_or-put-tab t₀ out (summed s₀ mat rows cols v i) cols j nan room l) in
        rw begun (fold-ext _ _ _ _ n (λ k m.
        let place : mat + i * cols + k * cols ≡ mat + (i + k) * cols = omega (arith, add-mul i k cols) in
        rw (place, is k m, element-of (i + k) (omega arith), entry_of (i + k) j (omega arith) l)
        (times-comm binary64 (part s₀ v rows ! (i + k)) (part s₀ mat (rows * cols) ! ((i + k) * cols + j))))
        ∙ fold_on _ _ _ i n))))

    -- one row more
    pub summed-one : i < rows → (u : List Float)
        → u ≡ put t out (zip_of (λ (x y : Float). add binary64 x (mul binary64 (s ! (v + i)) y)) cols (part t out cols) (part s (mat + i * cols) cols))
        → Made t₀ out cols (summed s₀ mat rows cols v (i + 1)) u cols
    summed-one h u q =
        summed-more 1 (omega arith) (λ k. s ! (v + (i + k))) (λ k l. refl) u
        (q ∙ ap (put t out) (added-one t out cols s _ (mat + i * cols) cols (s ! (v + i)) (ap (λ (b : ℕ). s ! b) (omega arith))))
