-- Column statistics of a matrix by rows: the 2-D mean from +0, the variance over raw sums and not squared deviations, and its root. Definitions only.
use Rattle.std.specs.Prelude.{List, ℕ, ◌+◌, ◌*◌, ◌^◌, ◌≤◌, ◌<◌, length, Float}
use Rattle.numbers.specs.Ops.{◌⊖◌, ◌⊘◌}
use Rattle.numbers.specs.declared.powers.Exponent.TheVariants.{Two}
use Rattle.numbers.specs.Powers.{power_of}
use Rattle.numbers.specs.Root.{root_of}
use Rattle.arrays.specs.Sums.{◌!◌, sum_to, products, plus0, whole}

-- column j of a matrix with `cols` columns
abbrev pub column : List Float → ℕ → ℕ → ℕ → Float
column m cols j i = m ! (i * cols + j)

unfoldable pub column_mean_of : List Float → ℕ → ℕ → ℕ → Float
column_mean_of m rows cols j = sum_to plus0 (column m cols j) rows ⊘ whole rows

unfoldable pub variance_of : List Float → ℕ → ℕ → ℕ → Float
variance_of m rows cols j =
    let mu = sum_to plus0 (column m cols j) rows ⊘ whole rows in
    products plus0 (column m cols j) (column m cols j) rows ⊘ whole rows ⊖ power_of Two mu

-- of a negative variance a NaN
unfoldable pub deviation_of : List Float → ℕ → ℕ → ℕ → Float
deviation_of m rows cols j = root_of (variance_of m rows cols j)

-- a matrix, and room in s for a mean and, behind the means, a deviation of each column
pub record Moments (m : List Float) (rows cols : ℕ) (s : List Float) (means deviations : ℕ) : Type 0 where
  pub matrix : rows * cols ≤ length m
  pub few : rows < 2 ^ 32
  pub apart : means + cols ≤ deviations
  pub room : deviations + cols ≤ length s
