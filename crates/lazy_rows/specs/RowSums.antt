-- The row sums without the padding, and what the functions that make one, or eight, ask. Inner definitions: no promise names them.
use Rattle.std.specs.Prelude.{◌≡◌, List, ℕ, ◌+◌, ◌*◌, ◌≤◌, length, Float}
use Rattle.numbers.specs.Ops.{◌⊗◌}
use Rattle.arrays.specs.Part.{tab}
use Rattle.arrays.specs.Sums.{◌!◌, products, plus0}
use Rattle.layout.specs.declared.Places.{Places}
use Rattle.settings.specs.declared.Terms.{Terms}
use Rattle.lazy_normalization.specs.Lazy.{lazy_at}

-- the row sums times gamma, without the padding
unfoldable pub lazy_sums : ℕ → ℕ → Terms → List Float → List Float → List Float → List Float → List Float → List Float
lazy_sums n p t m ce sc rc xs = tab (λ i. products plus0 (λ j. lazy_at p m ce sc rc i j) (λ j. xs ! j) p ⊗ t.gamma) n

-- row i of a lent matrix, which starts at `at`
pub record RowReads (m : List Float) (i at p : ℕ) (s : List Float) (l : Places) (v : ℕ) : Type 0 where
  pub start : at ≡ i * p
  pub row : at + p ≤ length m
  pub centres : l.centre + p ≤ length s
  pub scales : l.scale + p ≤ length s
  pub reciprocals : l.recip + p ≤ length s
  pub vector : v + p ≤ length s

-- the rows i, i + e, .. i + 7 * e of one
pub record EightRead (m : List Float) (i e p : ℕ) (s : List Float) (l : Places) (v : ℕ) : Type 0 where
  pub last : i * p + 7 * (e * p) + p ≤ length m
  pub centres : l.centre + p ≤ length s
  pub scales : l.scale + p ≤ length s
  pub reciprocals : l.recip + p ≤ length s
  pub vector : v + p ≤ length s
