-- What the functions of `eager` write row by row, and what they ask. Inner definitions: no promise names them.
use Rattle.std.specs.Prelude.{Bool, cond, List, ℕ, ◌+◌, ◌*◌, ◌≤◌, eqb, length, Float}
use Rattle.numbers.specs.Ops.{◌⊖◌, ◌⊗◌, ◌⊘◌}
use Rattle.arrays.specs.Sums.{◌!◌, plus0}

-- gamma times an element, normalised or raw
abbrev pub scaled_of : Bool → Float → Float → Float → Float → Float
scaled_of normalise gamma raw ce sc = gamma ⊗ cond normalise ((raw ⊖ ce) ⊘ sc) raw

-- the row of m from `at`
abbrev pub row_of : Bool → Float → List Float → ℕ → List Float → List Float → ℕ → Float
row_of normalise gamma m at ce sc j = scaled_of normalise gamma (m ! (at + j)) (ce ! j) (sc ! j)

abbrev pub diagonal_at : Float → ℕ → ℕ → Float
diagonal_at x r j = cond (eqb r j) x plus0

-- a row of m, with centres and scales before the place that is written
pub record Row (m : List Float) (at p : ℕ) (s : List Float) (ce sc out : ℕ) : Type 0 where
  pub matrix : at + p ≤ length m
  pub centres : ce + p ≤ out
  pub scales : sc + p ≤ out
  pub room : out + p ≤ length s

-- the same for n rows
pub record Matrix (m : List Float) (n p : ℕ) (s : List Float) (ce sc out : ℕ) : Type 0 where
  pub matrix : n * p ≤ length m
  pub centres : ce + p ≤ out
  pub scales : sc + p ≤ out
  pub room : out + n * p ≤ length s
