-- Inner definitions: no promise names them.
-- What filling a panel, adding the products of two panels and the mirror make of the scratch, from the innermost loop outwards, and what each asks.
use Rattle.std.specs.Prelude.{List, ℕ, zero, suc, ◌+◌, ◌-◌, ◌*◌, ◌≤◌, ◌<◌, length, Float}
use Rattle.numbers.specs.Ops.{◌⊖◌, ◌⊘◌}
use Rattle.arrays.specs.Part.{put, tab}
use Rattle.arrays.specs.Sums.{◌!◌}
use Rattle.several.specs.Several.{added_of}

-- ---- rows at a stride

-- s with f a 0, .. f a (w a - 1) written from at + a * p, for each a below n
unfoldable pub mat : List Float → ℕ → ℕ → (ℕ → ℕ) → (ℕ → ℕ → Float) → ℕ → List Float
mat s at p w f zero = s
mat s at p w f (suc n) = put (mat s at p w f n) (at + n * p) (tab (f n) (w n))

-- as many in every row
abbrev pub same : ℕ → ℕ → ℕ
same n a = n

-- the smaller of the two
abbrev pub least : ℕ → ℕ → ℕ
least a b = a - (a - b)

-- ---- panels

-- element b of a row of m that starts at `at`, less the centre, by the scale
abbrev pub norm_at : List Float → ℕ → List Float → ℕ → ℕ → ℕ → Float
norm_at m at s ce sc b = (m ! (at + b) ⊖ s ! (ce + b)) ⊘ s ! (sc + b)

-- a row of m, with centres and scales before the place that is written
pub record FillRow (m : List Float) (at : ℕ) (s : List Float) (ce sc to n : ℕ) : Type 0 where
  pub matrix : at + n ≤ length m
  pub centres : ce + n ≤ to
  pub scales : sc + n ≤ to
  pub room : to + n ≤ length s

-- row i, column j of the normalised matrix, with its centres and scales in s
unfoldable pub cell : List Float → ℕ → List Float → ℕ → ℕ → ℕ → ℕ → Float
cell m p s ce sc i j = (m ! (i * p + j) ⊖ s ! (ce + j)) ⊘ s ! (sc + j)

-- element b of row i of the panel of the rows from `row` and the columns from `col`
abbrev pub panel_at : List Float → ℕ → List Float → ℕ → ℕ → ℕ → ℕ → ℕ → ℕ → Float
panel_at m p s ce sc row col i b = cell m p s ce sc (row + i) (col + b)

-- a panel within the matrix, with centres and scales before the place that is written
pub record Fill (m : List Float) (p row nr col nc : ℕ) (s : List Float) (ce sc to cc : ℕ) : Type 0 where
  pub matrix : (row + nr) * p ≤ length m
  pub rows : row + nr ≤ length m
  pub cols : col + nc ≤ p
  pub width : nc ≤ cc
  pub centres : ce + p ≤ to
  pub scales : sc + p ≤ to
  pub room : to + nr * cc ≤ length s

-- ---- a block of sums

-- how many sums row a of a block has: nk, and none right of the diagonal, which lies d columns on
abbrev pub wid : ℕ → ℕ → ℕ → ℕ
wid nk d a = least nk (d + a + 1)

-- sum b of those from `at`, after i rows of the panels: the left one's column from l, and the right one's column b from r
abbrev pub sum_at : List Float → ℕ → ℕ → ℕ → ℕ → ℕ → ℕ → Float
sum_at s at l r cc i = added_of s at s (λ k. s ! (l + k * cc)) r cc i

-- the panels lie before the sums, and no place wraps
pub record EntryRow (s : List Float) (at w l r cc nr : ℕ) : Type 0 where
  pub room : at + w ≤ length s
  pub width : w ≤ cc
  pub left : l + nr * cc < at + cc
  pub fits : l + nr * cc ≤ at + length s
  pub right : r + nr * cc ≤ at

-- the sum at row a, column b of a block, after i rows of its panels
unfoldable pub carry : List Float → ℕ → ℕ → ℕ → ℕ → ℕ → ℕ → ℕ → ℕ → Float
carry s g p l r cc i a b = sum_at s (g + a * p) (l + a) r cc i b

-- both panels lie before the sums, and a block may end anywhere in its last row
pub record Block (s : List Float) (g p nj nk d l r cc nr : ℕ) : Type 0 where
  pub room : g + nj * p + nk ≤ length s + p
  pub wide : nk ≤ p
  pub fits : d + nj ≤ length s
  pub lefts : nj ≤ cc
  pub rights : nk ≤ cc
  pub left : l + nr * cc ≤ g
  pub right : r + nr * cc ≤ g

-- ---- the mirror

-- how many elements the rows of the lower triangle have
abbrev pub low : ℕ → ℕ
low j = j + 1

-- column k below the diagonal, read into row k right of it
abbrev pub across : List Float → ℕ → ℕ → ℕ → Float
across s from p b = s ! (from + b * p)

-- how many elements of row k stand right of the diagonal
abbrev pub right_of : ℕ → ℕ → ℕ
right_of p k = p - (k + 1)

-- those elements, each from its place below the diagonal
abbrev pub from_below : List Float → ℕ → ℕ → ℕ → ℕ → Float
from_below s ga p k = across s (ga + p + k * (p + 1)) p

-- the row lies before the column
pub record MirrorRow (s : List Float) (to from p n : ℕ) : Type 0 where
  pub some : 1 ≤ p
  pub apart : to + n ≤ from
  pub room : from + n * p < length s + p
