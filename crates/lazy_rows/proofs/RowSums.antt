-- The design times a vector: a row's products, a turn that writes a row of each eighth, a turn that writes one row, and the end. Assumes nothing.
use mathlib.Core.Path.{◌≡◌, sym, ap, ◌∙◌}
use mathlib.Core.List.{List, ◌++◌}
use Prim.Native.Nat.{ℕ, ◌+◌, ◌*◌, ◌≤◌, ◌<◌}
use native.Mathlib.Omega.{arith}
use lib.ListN.{set}
use lib.Ieee.{Float, nan}
use Rattle.numbers.specs.Ops.{◌⊗◌}
use Rattle.arrays.specs.Part.{part, put, tab}
use Rattle.arrays.proofs.Part.{put-append, get_or-tab, get_or-part, length-tab}
use Rattle.arrays.specs.Sums.{◌!◌, products, plus0}
use Rattle.arrays.specs.Vectors.{map_of}
use Rattle.arrays.proofs.Turns.{Made, made_more, made_all}
use Rattle.several.specs.Several.{spread_of}
use Rattle.several.proofs.Several.{few}
use Rattle.several.proofs.Runs.{Runs, but-kept, runs-spread}
use Rattle.several.proofs.Rows.{run_row}
use Rattle.layout.specs.declared.Places.{Places}
use Rattle.settings.specs.declared.Terms.{Terms}
use Rattle.lazy_normalization.specs.Lazy.{Reads, normalised}
use Rattle.lazy_normalization.proofs.Entries.{design, unwritten_of, while-made}
use Rattle.lazy_rows.specs.RowSums.{lazy_sums, RowReads, EightRead}

-- row i times the vector
abbrev pub row_sum : List Float → List Float → ℕ → Places → ℕ → ℕ → Float
row_sum m s p l v i = products plus0 (λ j. design m s p l i j) (λ j. part s v p ! j) p

-- a product of row i with the vector
pub row-term : {m : List Float} {i at p : ℕ} {s : List Float} {l : Places} {v : ℕ} → RowReads m i at p s l v → {y : Float} (j : ℕ) → j < p
    → y ≡ normalised (m ! (at + j)) (s ! (l.centre + j)) (s ! (l.scale + j)) (s ! (l.recip + j)) → y ⊗ s ! (v + j) ≡ design m s p l i j ⊗ part s v p ! j
row-term r j h y = rw (y, r.start) (simp get_or-part)

-- each of eight rows is one
pub one_of : {m : List Float} {i e p : ℕ} {s : List Float} {l : Places} {v : ℕ} → EightRead m i e p s l v → (k : ℕ) → k < 8
    → RowReads m (k * e + i) (i * p + k * (e * p)) p s l v
one_of {i = i} {e} {p} r k h = record {
  start = sym (run_row k e i p);
  row = omega (arith, few k 7 (e * p) h, r.last);
  centres = r.centres;
  scales = r.scales;
  reciprocals = r.reciprocals;
  vector = r.vector;
}

-- a turn that writes one row of each run: xs are their sums, ys those times gamma
pub eight-more : {m : List Float} {n p e : ℕ} {s₀ : List Float} {l : Places} {v out : ℕ} → Reads m n p s₀ l v p out (n + p) → 8 * e ≤ n
    → (gamma : Float) {s : List Float} {i : ℕ} → Runs s₀ out 8 e (λ a. row_sum m s₀ p l v a ⊗ gamma) s i 0
    → {xs ys u : List Float} → xs ≡ tab (λ a. row_sum m s p l v (a * e + i)) 8 → ys ≡ tab (λ a. xs ! a ⊗ gamma) 8
    → u ≡ spread_of s (out + i) e (λ a. ys ! a) 8 → i < e → Runs s₀ out 8 e (λ a. row_sum m s₀ p l v a ⊗ gamma) u (i + 1) 0
eight-more r few gamma d {u = u} q z w h =
    let k = unwritten_of r (λ a b off. but-kept d.but a b (λ o. omega (arith, off o))) in
    runs-spread d _ u w h (omega (arith, r.room))
    (λ a b. rw (z, get_or-tab _ 8 a nan b, q, get_or-tab _ 8 a nan b, k.centres, k.scales, k.reciprocals, k.vector))

-- ---- all rows

module _ {m : List Float} {n p : ℕ} {s₁ : List Float} {l : Places} {v out : ℕ} (r : Reads m n p s₁ l v p out (n + p)) (t : Terms) {s₀ s : List Float} {i : ℕ}
    (d : Made s₀ out n (λ k. row_sum m s₀ p l v k ⊗ t.gamma) s i) where
  pub rows_more : {x : Float} → i < n → x ≡ row_sum m s p l v i → Made s₀ out n (λ k. row_sum m s₀ p l v k ⊗ t.gamma) (set s (out + i) (x ⊗ t.gamma)) (i + 1)
  rows_more {x} h e =
      let k = while-made r (omega arith) d in
      made_more d (x ⊗ t.gamma) h (rw (e, k.centres, k.scales, k.reciprocals, k.vector))

  pub rows_all : (u : List Float) → n ≤ i → u ≡ put s (out + n) (map_of (λ (y : Float). t.padding ⊗ y) p (part s v p))
      → u ≡ put s₀ out (lazy_sums n p t m (part s₀ l.centre p) (part s₀ l.scale p) (part s₀ l.recip p) (part s₀ v p) ++ tab (λ j. t.padding ⊗ part s₀ v p ! j) p)
  unfolding map_of lazy_sums
  rows_all u h e =
      let k = while-made r (omega arith) d in
      let sums = tab (λ k. row_sum m s₀ p l v k ⊗ t.gamma) n in
      let tail = tab (λ j. t.padding ⊗ part s₀ v p ! j) p in
      rw (k.vector, made_all d h) at e ∙ ap (λ (a : ℕ). put (put s₀ out sums) (out + a) tail) (sym (length-tab _ n)) ∙ put-append s₀ out sums tail
