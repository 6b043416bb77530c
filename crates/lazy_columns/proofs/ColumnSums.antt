-- The transposed design times a vector: the turns that add a row, or four, to the columns' sums, a turn of the columns, and its end. Assumes nothing.
use mathlib.Core.Path.{◌≡◌, refl, sym, ap, ◌∙◌}
use mathlib.Core.List.{List}
use Prim.Native.Nat.{ℕ, ◌+◌, ◌*◌, ◌≤◌, ◌<◌}
use native.Mathlib.Nat.{add_assoc, add-mul}
use native.Mathlib.Omega.{arith}
use lib.ListN.{length, set}
use lib.Ieee.{Float, nan}
use Rattle.numbers.specs.Ops.{◌⊕◌, ◌⊖◌, ◌⊗◌}
use Rattle.arrays.specs.Part.{part, put, tab}
use Rattle.arrays.proofs.Part.{tab-ext, get_or-tab, get_or-part, get_or-put-tab, put_self}
use Rattle.arrays.specs.Sums.{◌!◌, products, plus0}
use Rattle.arrays.proofs.Folds.{fold-none, fold-turn, fold-ext, fold_on}
use Rattle.arrays.specs.Vectors.{zip_of, fill_of}
use Rattle.arrays.proofs.Turns.{Made, made_of, made_more, made_again, kept}
use Rattle.layout.specs.declared.Places.{Places}
use Rattle.settings.specs.declared.Terms.{Terms}
use Rattle.lazy_normalization.specs.Lazy.{Reads, normalised, lazy_columns}
use Rattle.lazy_normalization.proofs.Choice.{multiplied}
use Rattle.lazy_normalization.proofs.Entries.{design, Unwritten, while-made}
use Rattle.lazy_columns.specs.ColumnSums.{RowAdds, FourAdd}
use Rattle.lazy_columns.proofs.There.{each-there}

-- the first i rows of column j times the vector at v of s, added to b j
abbrev pub summed : List Float → List Float → ℕ → Places → (ℕ → Float) → ℕ → ℕ → ℕ → ℕ → Float
summed m s p l b v nv i j = products (b j) (λ k. design m s p l k j) (λ k. part s v nv ! k) i

-- added to +0
abbrev pub column_sum : List Float → List Float → ℕ → Places → ℕ → ℕ → ℕ → ℕ → Float
column_sum m s p l v nv i j = summed m s p l (λ _. plus0) v nv i j

-- the numbers of column j, beside the sums, are as they were
column-kept : {s₀ s : List Float} {out p : ℕ} {f : ℕ → Float} {j : ℕ} → Made s₀ out p f s j → j < p → (l : Places) → (out < l.recip + p → out + p ≤ l.centre)
    → (a : ℕ) → l.centre ≤ a → a ≤ l.recip → s ! (a + j) ≡ part s₀ a p ! j
column-kept d h l off a u w = kept d a h (λ x y. absurd (omega (arith, off (omega arith))))

-- sum j gets its product with row i
pub add-more : {m : List Float} {i at p : ℕ} {s₀ : List Float} {l : Places} {out : ℕ} → RowAdds m i at p s₀ l out → (x : Float) {s : List Float} {j : ℕ} {y : Float}
    → Made s₀ out p (λ k. part s₀ out p ! k ⊕ design m s₀ p l i k ⊗ x) s j → j < p
    → y ≡ normalised (m ! (at + j)) (s ! (l.centre + j)) (s ! (l.scale + j)) (s ! (l.recip + j))
    → Made s₀ out p (λ k. part s₀ out p ! k ⊕ design m s₀ p l i k ⊗ x) (set s (out + j) (s ! (out + j) ⊕ y ⊗ x)) (j + 1)
add-more {l = l} {out} r x d h n =
    let ec = column-kept d h l r.off-columns l.centre (omega arith) (omega arith) in
    let es = column-kept d h l r.off-columns l.scale (omega arith) (omega arith) in
    let eb = column-kept d h l r.off-columns l.recip (omega arith) (omega arith) in
    made_more d _ h (rw (n, r.start, ec, es, eb, kept d out h (λ _ _. refl)))

-- column j of the rows i to i + 3, multiplied and not divided, times the numbers of xs, added to sum j of those of t from `out` in turn
abbrev pub four_sum : List Float → List Float → ℕ → ℕ → ℕ → List Float → ℕ → ℕ → List Float → ℕ → Float
four_sum m s p ce rc t out i xs j = products (part t out p ! j) (λ a. (m ! ((i + a) * p + j) ⊖ part s ce p ! j) ⊗ part s rc p ! j) (λ a. xs ! a) 4

module _ {m : List Float} {i p : ℕ} {s₀ : List Float} {l : Places} {out : ℕ} (r : FourAdd m i p s₀ l out) (xs : List Float) where
  -- sum j gets its four products; the sums lie in s, or in another list
  pub four-more : {s : List Float} {j : ℕ} {f : ℕ → Float} → Made s₀ out p f s j → j < p → {t₀ t : List Float} {at : ℕ} {x : Float}
      → Made t₀ at p (four_sum m s₀ p l.centre l.recip t₀ at i xs) t j
      → x ≡ products (t ! (at + j)) (λ a. (m ! (i * p + a * p + j) ⊖ s ! (l.centre + j)) ⊗ s ! (l.recip + j)) (λ a. xs ! a) 4
      → Made t₀ at p (four_sum m s₀ p l.centre l.recip t₀ at i xs) (set t (at + j) x) (j + 1)
  four-more d h {at = at} u e =
      let ec = column-kept d h l r.off-columns l.centre (omega arith) (omega arith) in
      let eb = column-kept d h l r.off-columns l.recip (omega arith) (omega arith) in
      made_more u _ h (e ∙ rw (kept u at h (λ _ _. refl), ec, eb) (fold-ext _ _ _ _ 4 (λ a _. rw (add-mul i a p))))

  -- the same where they are a list's first
  pub four-first : {s : List Float} {j : ℕ} {f : ℕ → Float} → Made s₀ out p f s j → j < p → {t₀ t : List Float} {x : Float}
      → Made t₀ 0 p (four_sum m s₀ p l.centre l.recip t₀ 0 i xs) t j
      → x ≡ products (t ! j) (λ a. (m ! (i * p + a * p + j) ⊖ s ! (l.centre + j)) ⊗ s ! (l.recip + j)) (λ a. xs ! a) 4
      → Made t₀ 0 p (four_sum m s₀ p l.centre l.recip t₀ 0 i xs) (set t j x) (j + 1)
  four-first {j = j} d h {x = x} u e =
      let z : 0 + j ≡ j = omega arith in
      rw z at (four-more d h {x = x} u (rw z e))

  -- they are those of the design, since no reciprocal is missing
  pub four-all : (t : List Float) (at : ℕ) → tab (four_sum m s₀ p l.centre l.recip t at i xs) p
      ≡ tab (λ j. products (part t at p ! j) (λ a. design m s₀ p l (i + a) j) (λ a. xs ! a) 4) p
  four-all t at =
      tab-ext _ _ p (λ j h.
      fold-ext _ _ _ _ 4 (λ a _. ap (λ (y : Float). y ⊗ xs ! a) (multiplied _ _ (part s₀ l.scale p ! j) _ (each-there (part s₀ l.recip p) p r.there j h))))

-- ---- all rows

-- the next four elements of a vector, as they were read
pub four-read : (s : List Float) (v i : ℕ) {xs : List Float} → xs ≡ tab (λ a. s ! (v + i + a * 1)) 4 → (a : ℕ) → a < 4 → xs ! a ≡ s ! (v + (i + a))
four-read s v i q a h =
    let place : v + i + a * 1 ≡ v + (i + a) = omega arith in
    ap (λ (ys : List Float). ys ! a) q ∙ get_or-tab _ 4 a nan h ∙ ap (λ (b : ℕ). s ! b) place

-- a sum that is written
pub written : {s₀ s : List Float} {out p : ℕ} {f : ℕ → Float} → Made s₀ out p f s p → out + p ≤ length s₀ → (j : ℕ) → j < p → part s out p ! j ≡ f j
written {s₀} {s} {out} {p} {f} d room j h = get_or-part s out p j nan h ∙ rw d.is (get_or-put-tab s₀ out f p j nan room h)

-- no row yet, whatever rows will be added
pub sums_none : (t : List Float) (out p : ℕ) (f g : ℕ → ℕ → Float) → out + p ≤ length t → Made t out p (λ j. products (part t out p ! j) (f j) (g j) 0) t p
sums_none t out p f g room = made_of t out p _ t (sym (put_self t out _ p nan room (λ j h. fold-none _ _ _ ∙ get_or-part t out p j nan h)))

-- `count` rows more: f has the vector's next elements, and what is read is as it was in s₀
pub sums_on : (m : List Float) {s₀ s : List Float} {p : ℕ} {l : Places} {v nv : ℕ} → Unwritten s₀ s p l v nv → (b : ℕ → Float) {t₀ t : List Float} {out : ℕ} (i count : ℕ)
    → Made t₀ out p (summed m s₀ p l b v nv i) t p → out + p ≤ length t₀ → i + count ≤ nv → (f : ℕ → Float) → ((a : ℕ) → a < count → f a ≡ s ! (v + (i + a)))
    → (u : List Float) → u ≡ put t out (tab (λ j. products (part t out p ! j) (λ a. design m s p l (i + a) j) f count) p)
    → Made t₀ out p (summed m s₀ p l b v nv (i + count)) u p
sums_on m {s₀} {s} {p} {l} {v} {nv} same b {t = t} {out} i count d room h f is u e =
    made_again d _ u
    (e ∙ ap (put t out) (tab-ext _ _ p (λ j k. rw (written d room j k) (fold-ext _ _ _ _ count (term j)) ∙ fold_on _ _ _ i count))) where
      term : (j a : ℕ) → a < count → design m s p l (i + a) j ⊗ f a ≡ design m s₀ p l (i + a) j ⊗ part s₀ v nv ! (i + a)
      term j a g = rw (is a g, ← get_or-part s v nv (i + a) nan (omega arith), same.centres, same.scales, same.reciprocals, same.vector)

-- +0 and no row
pub columns-none : (m s₀ : List Float) (n p : ℕ) (l : Places) (v : ℕ) (s : List Float) (out : ℕ) → s ≡ put s₀ out (fill_of plus0 p)
    → Made s₀ out p (column_sum m s₀ p l v (n + p) 0) s p
unfolding fill_of
columns-none m s₀ n p l v s out e = made_of s₀ out p _ s (e ∙ ap (put s₀ out) (tab-ext _ _ p (λ j h. sym (fold-none _ _ _))))

module _ {m : List Float} {n p : ℕ} {s₀ : List Float} {l : Places} {v out : ℕ} (r : Reads m n p s₀ l v (n + p) out p) (i : ℕ) {s : List Float}
    (d : Made s₀ out p (column_sum m s₀ p l v (n + p) i) s p) where
  -- what is read is as it was
  same : Unwritten s₀ s p l v (n + p)
  same = while-made r (omega arith) d

  pub columns-more : (u : List Float) → i < n → u ≡ put s out (tab (λ j. part s out p ! j ⊕ design m s p l i j ⊗ s ! (v + i)) p)
      → Made s₀ out p (column_sum m s₀ p l v (n + p) (i + 1)) u p
  columns-more u h e = made_again d _ u (e ∙ ap (put s out) (tab-ext _ _ p (λ j q. fold-turn _ _ _ i _ _ (written d r.room j q) (term j)))) where
    term : (j : ℕ) → design m s p l i j ⊗ s ! (v + i) ≡ design m s₀ p l i j ⊗ part s₀ v (n + p) ! i
    term j = rw (same.centres, same.scales, same.reciprocals, ← same.vector, get_or-part s v (n + p) i nan (omega arith))

  -- xs are the vector's next four elements
  pub columns-four : (u : List Float) {xs : List Float} → i + 4 ≤ n → xs ≡ tab (λ a. s ! (v + i + a * 1)) 4
      → u ≡ put s out (tab (λ j. products (part s out p ! j) (λ a. design m s p l (i + a) j) (λ a. xs ! a) 4) p)
      → Made s₀ out p (column_sum m s₀ p l v (n + p) (i + 4)) u p
  columns-four u {xs} h q e = sums_on m same (λ _. plus0) i 4 d r.room (omega arith) _ (four-read s v i q) u e

  pub columns-all : (t : Terms) (u : List Float) → n ≤ i → i ≤ n
      → u ≡ put s out (zip_of (λ (x y : Float). t.gamma ⊗ x ⊕ t.padding ⊗ y) p (part s out p) (part s (v + n) p))
      → u ≡ put s₀ out (lazy_columns n p t m (part s₀ l.centre p) (part s₀ l.scale p) (part s₀ l.recip p) (part s₀ v (n + p)))
  unfolding zip_of lazy_columns
  columns-all t u h k e = (made_again d _ u (e ∙ ap (put s out) (tab-ext _ _ p (λ j q. rw (written d r.room j q, tail j q, all))))).is where
    all : i ≡ n
    all = omega arith

    tail : (j : ℕ) → j < p → part s (v + n) p ! j ≡ part s₀ v (n + p) ! (n + j)
    tail j q = rw (← same.vector, get_or-part s (v + n) p j nan q, get_or-part s v (n + p) (n + j) nan (omega arith), add_assoc)
