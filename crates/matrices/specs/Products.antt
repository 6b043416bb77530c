-- Products of a matrix by rows of `cols` elements with a vector: `xa`, whose order is each sum's own, from +0. Definitions only.
use Rattle.std.specs.Prelude.{List, ℕ, ◌+◌, ◌*◌, ◌≤◌, ◌<◌, length, Float}
use Rattle.arrays.specs.Part.{tab}
use Rattle.arrays.specs.Sums.{◌!◌, products, plus0}

-- x.xa(true, m): entry i is row i of m times x
abbrev pub row_product : List Float → ℕ → List Float → ℕ → Float
row_product m cols xs i = products plus0 (λ j. m ! (i * cols + j)) (λ j. xs ! j) cols

unfoldable pub rows_of : List Float → ℕ → ℕ → List Float → List Float
rows_of m rows cols xs = tab (row_product m cols xs) rows

-- x.xa(false, m): entry j is column j of m times x
abbrev pub column_product : List Float → ℕ → ℕ → List Float → ℕ → Float
column_product m rows cols xs j = products plus0 (λ i. m ! (i * cols + j)) (λ i. xs ! i) rows

unfoldable pub columns_of : List Float → ℕ → ℕ → List Float → List Float
columns_of m rows cols xs = tab (column_product m rows cols xs) cols

-- a matrix of `all` elements and a vector of n in s, and room for k more in none of them
pub record Together (s : List Float) (mat all v n out k : ℕ) : Type 0 where
  pub matrix : mat + all ≤ length s
  pub vector : v + n ≤ length s
  pub room : out + k ≤ length s
  pub off-vector : out < v + n → out + k ≤ v
  pub off-matrix : out < mat + all → out + k ≤ mat

-- the same with the matrix in a slice of its own
pub record Beside (m : List Float) (all : ℕ) (s : List Float) (v n out k : ℕ) : Type 0 where
  pub matrix : all ≤ length m
  pub vector : v + n ≤ length s
  pub room : out + k ≤ length s
  pub off-vector : out < v + n → out + k ≤ v
