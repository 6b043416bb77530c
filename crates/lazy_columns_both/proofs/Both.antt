-- Two transposed products, in two passes or in one. Assumes nothing.
use mathlib.Core.Path.{◌≡◌, refl, sym, ap, ◌∙◌}
use mathlib.Core.List.{List}
use Prim.Native.Nat.{ℕ, ◌+◌, ◌-◌, ◌≤◌, ◌<◌}
use native.Mathlib.Nat.{add_assoc}
use native.Mathlib.Omega.{arith}
use lib.ListN.{length}
use lib.Ieee.{Float, binary64, nan}
use Rattle.numbers.specs.Ops.{◌⊕◌, ◌⊗◌}
use Rattle.arrays.specs.Part.{part, put, tab}
use Rattle.arrays.proofs.Part.{tab-ext, get_or-tab, get_or-part, length-tab, part-put-same, part-put-apart, apart_of}
use Rattle.arrays.specs.Sums.{◌!◌, products, plus0}
use Rattle.arrays.proofs.Folds.{fold-turn}
use Rattle.arrays.proofs.Commute.{times-comm}
use Rattle.arrays.specs.Vectors.{fill_of, map_of, zip_of}
use Rattle.arrays.proofs.Lengths.{length-fill}
use Rattle.arrays.proofs.Turns.{Made, made_of, made_again}
use Rattle.layout.specs.declared.Places.{Places}
use Rattle.settings.specs.declared.Terms.{Terms}
use Rattle.lazy_normalization.specs.Lazy.{lazy_columns, Reads}
use Rattle.lazy_normalization.proofs.Entries.{design, Unwritten, while-made, reads_on}
use Rattle.lazy_columns.specs.ColumnSums.{lazy_added}
use Rattle.lazy_columns_both.specs.Both.{added_from, TwoRead}
use Rattle.lazy_columns.proofs.ColumnSums.{summed, written, sums_on}

-- the transposed design, with the columns' numbers that lie in s, times the vector at v
abbrev product_at : List Float → ℕ → ℕ → Terms → List Float → Places → ℕ → List Float
product_at m n p t s l v = lazy_columns n p t m (part s l.centre p) (part s l.scale p) (part s l.recip p) (part s v (n + p))

-- the second product first, and its sums copied before the first one is made in their place
pub in-turn : {m : List Float} {n p : ℕ} {s : List Float} {l : Places} {v out : ℕ} → Reads m n p s l v (n + p) out p → (w : ℕ) (t : Terms) (s₁ s₂ y y₁ : List Float)
    → s₁ ≡ put s out (product_at m n p t s l w) → y₁ ≡ put y 0 (part s₁ out p) → s₂ ≡ put s₁ out (product_at m n p t s₁ l v)
    → (s₂ ≡ put s out (product_at m n p t s l v)) × (y₁ ≡ put y 0 (product_at m n p t s l w))
unfolding lazy_columns
in-turn {p = p} {s = s} {out = out} r w t s₁ s₂ y y₁ e₁ ey e₂ =
    let d = made_of s out p _ s₁ e₁ in
    let k = while-made r (omega arith) d in (
      (made_again d _ s₂ (rw (k.centres, k.scales, k.reciprocals, k.vector) at e₂)).is,
      ey ∙ ap (put y 0) (rw e₁ (part-put-same s out _ p (length-tab _ p) r.room)),
    )

-- ---- the rows that are left

-- sum j of those of t at `out`, and `count` rows from row i on
abbrev pub from_row : List Float → List Float → ℕ → Places → List Float → ℕ → ℕ → ℕ → ℕ → ℕ → Float
from_row m s p l t out v i count j = products (part t out p ! j) (λ k. design m s p l (i + k) j) (λ k. s ! (v + (i + k))) count

-- one row more: e begins with its entries, and x is the vector's element
pub from_more : (m : List Float) {s₀ s : List Float} {p : ℕ} {l : Places} {v nv : ℕ} → Unwritten s₀ s p l v nv → {t₀ t : List Float} {out : ℕ} (i count : ℕ)
    → Made t₀ out p (from_row m s₀ p l t₀ out v i count) t p → out + p ≤ length t₀ → i + count < nv → (e : List Float)
    → e ≡ put (fill_of plus0 64) 0 (tab (λ j. design m s p l (i + count) j) p) → p ≤ 64 → (x : Float) → x ≡ s ! (v + (i + count)) → (u : List Float)
    → u ≡ put t out (zip_of (λ (a w : Float). a ⊕ x ⊗ w) p (part t out p) (part e 0 p)) → Made t₀ out p (from_row m s₀ p l t₀ out v i (count + 1)) u p
unfolding zip_of
from_more m {s₀} {s} {p} {l} {v} {nv} same {t = t} {out} i count d room h e made few x is u q =
    made_again d _ u (q ∙ ap (put t out) (tab-ext _ _ p (λ j k. fold-turn _ _ _ count _ _ (written d room j k) (term j k)))) where
      row : part e 0 p ≡ tab (λ j. design m s p l (i + count) j) p
      row = rw made (part-put-same (fill_of plus0 64) 0 _ p (length-tab _ p) (omega (arith, length-fill plus0 64)))

      element : s ! (v + (i + count)) ≡ s₀ ! (v + (i + count))
      element = sym (get_or-part s v nv (i + count) nan h) ∙ ap (λ (xs : List Float). xs ! (i + count)) same.vector ∙ get_or-part s₀ v nv (i + count) nan h

      term : (j : ℕ) → j < p → x ⊗ part e 0 p ! j ≡ design m s₀ p l (i + count) j ⊗ s₀ ! (v + (i + count))
      term j k =
          rw (is, element, row, get_or-tab _ p j nan k, same.centres, same.scales, same.reciprocals)
          (times-comm binary64 (s₀ ! (v + (i + count))) (design m s₀ p l (i + count) j))

-- ---- between the calls

pub cleared : (s s₁ : List Float) (out p : ℕ) → s₁ ≡ put s out (fill_of plus0 p) → Made s out p (λ k. plus0) s₁ p
unfolding fill_of
cleared s s₁ out p e = made_of s out p (λ k. plus0) s₁ e

-- other sums, in either list
pub two-on : {m : List Float} {n p : ℕ} {s s₁ : List Float} {l : Places} {v out w : ℕ} {y y₁ : List Float} {f : ℕ → Float} → TwoRead m n p s l v out w y
    → Made s out p f s₁ p → length y₁ ≡ length y → TwoRead m n p s₁ l v out w y₁
two-on r d e =
    let k = while-made r.first (omega arith) d in
    record { first = reads_on r.first d.long; second = reads_on r.second d.long; other = omega (arith, r.other); there = rw k.reciprocals r.there }

pub fours-made : (m s : List Float) (n p count : ℕ) (l : Places) (v : ℕ) (t t₁ : List Float) (at : ℕ)
    → t₁ ≡ put t at (lazy_added count p m (part s l.centre p) (part s l.scale p) (part s l.recip p) (part s v (n + p)) (part t at p))
    → Made t at p (summed m s p l (λ j. part t at p ! j) v (n + p) count) t₁ p
unfolding lazy_added
fours-made m s n p count l v t t₁ at e = made_of t at p _ t₁ e

-- the rest after the first k rows
pub rest-made : (m : List Float) {n p : ℕ} {s s₁ : List Float} {l : Places} {v out : ℕ} {f : ℕ → Float} → Reads m n p s l v (n + p) out p → Made s out p f s₁ p
    → (k : ℕ) → k ≤ n → (t t₁ t₂ : List Float) (at : ℕ) → at + p ≤ length t → Made t at p (summed m s p l (λ j. part t at p ! j) v (n + p) k) t₁ p
    → t₂ ≡ put t₁ at (added_from m p s₁ l t₁ at v k (n - k)) → Made t at p (summed m s p l (λ j. part t at p ! j) v (n + p) n) t₂ p
unfolding added_from
rest-made m {n} r d k h t t₁ t₂ at room made e =
    let all : k + (n - k) ≡ n = omega arith in
    rw all at (sums_on m (while-made r (omega arith) d) _ k (n - k) made room (omega arith) _ (λ a q. refl) t₂ e)

-- ---- all rows, and the end; the sums lie in s, or are a list's first

-- over sums of +0, which are written to s₁
pub all-rows : {m : List Float} {n p : ℕ} {s s₁ : List Float} {l : Places} {v out : ℕ} → Reads m n p s l v (n + p) out p → Made s out p (λ k. plus0) s₁ p
    → (t t₁ t₂ : List Float) (at : ℕ) → at + p ≤ length t → t₁ ≡ put t at (fill_of plus0 p) → Made t₁ at p (summed m s₁ p l (λ j. part t₁ at p ! j) v (n + p) n) t₂ p
    → t₂ ≡ put t at (lazy_added n p m (part s l.centre p) (part s l.scale p) (part s l.recip p) (part s v (n + p)) (fill_of plus0 p))
unfolding fill_of lazy_added
all-rows {m} {n} {p} {s} {s₁} {l} {v} r d t t₁ t₂ at room e d₂ =
    let none = made_of t at p (λ k. plus0) t₁ e in
    let k = while-made r (omega arith) d in
    rw (k.centres, k.scales, k.reciprocals, k.vector) at
    (made_again none (λ j. products (tab (λ i. plus0) p ! j) (λ a. design m s₁ p l a j) (λ a. part s₁ v (n + p) ! a) n) t₂
    (d₂.is ∙ ap (put t₁ at) (tab-ext _ _ p (λ j h. rw (written none room j h, get_or-tab (λ i. plus0) p j nan h))))).is

pub finished : (m : List Float) (n p : ℕ) (s : List Float) (l : Places) (v : ℕ) (tm : Terms) (t t₁ t₂ : List Float) (at : ℕ) → at + p ≤ length t
    → t₁ ≡ put t at (lazy_added n p m (part s l.centre p) (part s l.scale p) (part s l.recip p) (part s v (n + p)) (fill_of plus0 p))
    → (s₁ : List Float) → part s₁ v (n + p) ≡ part s v (n + p)
    → t₂ ≡ put t₁ at (zip_of (λ (x y : Float). tm.gamma ⊗ x ⊕ tm.padding ⊗ y) p (part t₁ at p) (part s₁ (v + n) p)) → t₂ ≡ put t at (product_at m n p tm s l v)
unfolding fill_of lazy_added zip_of lazy_columns
finished m n p s l v tm t t₁ t₂ at room e₁ s₁ same e₂ =
    let d = made_of t at p _ t₁ e₁ in
    (made_again d (λ j. tm.gamma ⊗ products plus0 (λ a. design m s p l a j) (λ a. part s v (n + p) ! a) n ⊕ tm.padding ⊗ part s v (n + p) ! (n + j)) t₂ (e₂ ∙ ap (put t₁ at) (tab-ext _ _ p (λ j h. rw (written d room j h, get_or-tab (λ i. plus0) p j nan h, tail j h))))).is where
      tail : (j : ℕ) → j < p → part s₁ (v + n) p ! j ≡ part s v (n + p) ! (n + j)
      tail j h = rw (← same, get_or-part s₁ (v + n) p j nan h, get_or-part s₁ v (n + p) (n + j) nan (omega arith), add_assoc)

-- gamma times the sums, and then padding times the tail
pub in_two : (tm : Terms) (p : ℕ) (y y₁ y₂ b : List Float) → p ≤ length y → y₁ ≡ put y 0 (map_of (λ (x : Float). tm.gamma ⊗ x) p (part y 0 p))
    → y₂ ≡ put y₁ 0 (zip_of (λ (x z : Float). x ⊕ tm.padding ⊗ z) p (part y₁ 0 p) b)
    → y₂ ≡ put y 0 (zip_of (λ (x z : Float). tm.gamma ⊗ x ⊕ tm.padding ⊗ z) p (part y 0 p) b)
unfolding map_of zip_of
in_two tm p y y₁ y₂ b room e₁ e₂ =
    let d = made_of y 0 p _ y₁ e₁ in
    (made_again d (λ j. tm.gamma ⊗ part y 0 p ! j ⊕ tm.padding ⊗ b ! j) y₂ (e₂ ∙ ap (put y₁ 0) (tab-ext _ _ p (λ j h. rw (written d (omega arith) j h))))).is

-- the vector is as it was behind the sums, and behind what is made of them
pub sums_kept : {m : List Float} {n p : ℕ} {s s₁ : List Float} {l : Places} {v out : ℕ} → Reads m n p s l v (n + p) out p → (xs : List Float) → length xs ≡ p
    → s₁ ≡ put s out xs → part s₁ v (n + p) ≡ part s v (n + p)
sums_kept {n = n} {p} {s} {v = v} {out} r xs h e = rw e (part-put-apart s out xs v (n + p) (rw h (apart_of out p v (n + p) r.off-vector)))

pub added-length : (n p : ℕ) (m ce sc rc xs sums : List Float) → length (lazy_added n p m ce sc rc xs sums) ≡ p
unfolding lazy_added
added-length n p m ce sc rc xs sums = length-tab _ p
