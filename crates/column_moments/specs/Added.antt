-- Rows added to the columns' sums, and their squares to the sums of squares, however many at a time. Inner definitions: no promise names them.
use Rattle.std.specs.Prelude.{List, ℕ, ◌+◌, ◌*◌, ◌^◌, ◌≤◌, ◌<◌, length, Float}
use Rattle.numbers.specs.Ops.{◌⊗◌}
use Rattle.arrays.specs.Part.{put, tab}
use Rattle.several.specs.Several.{gathered}

-- what an element adds to its column's sum, and to its sum of squares
abbrev pub itself : ℕ → Float → Float
itself k x = x

abbrev pub squared : ℕ → Float → Float
squared k x = x ⊗ x

-- s with `count` rows of m, from the one at `at` on, added to both
unfoldable pub rows_added : List Float → ℕ → ℕ → List Float → ℕ → ℕ → ℕ → List Float
rows_added s sums squares m at cols count =
    put (put s sums (tab (gathered itself s sums m at cols count) cols)) squares (tab (gathered squared s squares m at cols count) cols)

-- these rows, and in s a sum and, behind the sums, a sum of squares of each column; where there is no column, it is by `few` that no row's number wraps
pub record Adds (m : List Float) (at count cols : ℕ) (s : List Float) (sums squares : ℕ) : Type 0 where
  pub matrix : at + count * cols ≤ length m
  pub few : count < 2 ^ 32
  pub apart : sums + cols ≤ squares
  pub room : squares + cols ≤ length s
