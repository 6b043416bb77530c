-- The column sums, whether every reciprocal is there, and what the functions that add one row, or four, ask. Inner definitions: no promise names them.
use Rattle.std.specs.Prelude.{◌≡◌, Bool, true, false, cond, List, ℕ, zero, suc, ◌+◌, ◌*◌, ◌≤◌, ◌<◌, length, Float}
use Rattle.std.specs.Float.Ieee.{eq}
use Rattle.arrays.specs.Part.{part, tab}
use Rattle.arrays.specs.Sums.{◌!◌, products, plus0}
use Rattle.layout.specs.declared.Places.{Places}
use Rattle.lazy_normalization.specs.Lazy.{lazy_at}

-- the column sums of the first n rows, added to those of `sums`
unfoldable pub lazy_added : ℕ → ℕ → List Float → List Float → List Float → List Float → List Float → List Float → List Float
lazy_added n p m ce sc rc xs sums = tab (λ j. products (sums ! j) (λ i. lazy_at p m ce sc rc i j) (λ i. xs ! i) n) p

-- of the first p reciprocals none stands for division
unfoldable pub all_there : List Float → ℕ → Bool
all_there rc zero = true
all_there rc (suc p) = cond (eq (rc ! p) plus0) false (all_there rc p)

-- row i of a lent matrix, which starts at `at`, and elsewhere p sums that it is added to
pub record RowAdds (m : List Float) (i at p : ℕ) (s : List Float) (l : Places) (out : ℕ) : Type 0 where
  pub start : at ≡ i * p
  pub row : at + p ≤ length m
  pub centres : l.centre + p ≤ l.scale
  pub scales : l.scale + p ≤ l.recip
  pub reciprocals : l.recip + p ≤ length s
  pub room : out + p ≤ length s
  pub off-columns : out < l.recip + p → out + p ≤ l.centre

-- the rows i to i + 3 of one, nothing of which is divided, and elsewhere p sums that they are added to
pub record FourAdd (m : List Float) (i p : ℕ) (s : List Float) (l : Places) (out : ℕ) : Type 0 where
  pub last : i * p + 3 * p + p ≤ length m
  pub centres : l.centre + p ≤ l.scale
  pub scales : l.scale + p ≤ l.recip
  pub reciprocals : l.recip + p ≤ length s
  pub room : out + p ≤ length s
  pub off-columns : out < l.recip + p → out + p ≤ l.centre
  pub there : all_there (part s l.recip p) p ≡ true
