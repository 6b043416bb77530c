-- Both column sums to which rows are added, and what the functions that add them ask. Inner definitions: no promise names them.
use Rattle.std.specs.Prelude.{◌≡◌, true, List, ℕ, ◌+◌, ◌*◌, ◌≤◌, length, Float}
use Rattle.arrays.specs.Part.{part, tab}
use Rattle.arrays.specs.Sums.{◌!◌, products}
use Rattle.layout.specs.declared.Places.{Places}
use Rattle.lazy_normalization.specs.Lazy.{lazy_at, Reads}
use Rattle.lazy_columns.specs.ColumnSums.{all_there}

-- the sums of t at `out`, and `count` rows of the design from row i on, times the vector at v of s, added in turn
unfoldable pub added_from : List Float → ℕ → List Float → Places → List Float → ℕ → ℕ → ℕ → ℕ → List Float
added_from m p s l t out v i count =
    tab (λ j. products (part t out p ! j) (λ k. lazy_at p m (part s l.centre p) (part s l.scale p) (part s l.recip p) (i + k) j) (λ k. s ! (v + (i + k))) count) p

-- a lent matrix, no reciprocal missing, two vectors, and room for the sums of both
pub record TwoRead (m : List Float) (n p : ℕ) (s : List Float) (l : Places) (v out w : ℕ) (y : List Float) : Type 0 where
  pub first : Reads m n p s l v (n + p) out p
  pub second : Reads m n p s l w (n + p) out p
  pub other : p ≤ length y
  pub there : all_there (part s l.recip p) p ≡ true

-- row i of it
pub record RowRead (m : List Float) (i p : ℕ) (s : List Float) (l : Places) : Type 0 where
  pub row : i * p + p ≤ length m
  pub few : p ≤ 64
  pub centres : l.centre + p ≤ length s
  pub scales : l.scale + p ≤ length s
  pub reciprocals : l.recip + p ≤ length s
