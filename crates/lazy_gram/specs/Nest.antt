-- Inner definitions: no promise names them.
-- What the loops over pairs of panels make of the scratch, from the innermost outwards, then the augmentation, and what each asks.
use Rattle.std.specs.Prelude.{◌≡◌, Bool, cond, List, ℕ, ◌+◌, ◌*◌, ◌≤◌, ◌<◌, eqb, length, Float}
use Rattle.numbers.specs.Ops.{◌⊕◌, ◌⊗◌}
use Rattle.arrays.specs.Part.{part}
use Rattle.arrays.specs.Sums.{◌!◌, products, plus0}
use Rattle.matrices.specs.Grid.{grid}
use Rattle.gram_panels.specs.Panels.{mat, cell, low}
use Rattle.lazy_gram.specs.declared.GramPlaces.{GramPlaces}
use Rattle.lazy_gram.specs.Gram.{entry_of}

-- ---- rows of the lower triangle, and lists that are the same but for the panels

-- the lower triangle's rows, from row j of the Gram on
abbrev pub tri : ℕ → ℕ → ℕ
tri j a = j + (a + 1)

-- the same but from `le` to `en`
pub record Like (le en : ℕ) (s t : List Float) : Type 0 where
  pub len : length s ≡ length t
  pub low : (q : ℕ) → q < le → s ! q ≡ t ! q
  pub high : (q : ℕ) → en ≤ q → s ! q ≡ t ! q

-- ---- the nest

-- entry (j, k) over the first n rows of the cells c
unfoldable pub entry : (ℕ → ℕ → Float) → ℕ → ℕ → ℕ → Float
entry c n j k = products plus0 (λ i. c i j) (λ i. c i k) n

-- the sum t advanced over n rows from `row`
unfoldable pub adv : (ℕ → ℕ → Float) → ℕ → Float → ℕ → ℕ → ℕ → Float
adv c row t n j k = products t (λ i. c (row + i) j) (λ i. c (row + i) k) n

-- every sum of the Gram's rows from j, which lie from g on, advanced by nr rows
abbrev pub next : (ℕ → ℕ → Float) → List Float → ℕ → ℕ → ℕ → ℕ → ℕ → ℕ → ℕ → Float
next c s g p row nr j a b = adv c row (s ! (g + a * p + b)) nr (j + a) b

-- s with n of these rows advanced, w a sums of row j + a
abbrev pub advanced : List Float → ℕ → ℕ → ℕ → List Float → GramPlaces → ℕ → (ℕ → ℕ) → ℕ → List Float
advanced m p row nr s pl j w n = mat s (pl.ga + j * p) p w (next (cell m p s pl.ce pl.sc) s (pl.ga + j * p) p row nr j) n

-- the same of the Gram's rows from 0, and s with n rows of the lower triangle advanced
abbrev pub whole : (ℕ → ℕ → Float) → List Float → ℕ → ℕ → ℕ → ℕ → ℕ → ℕ → Float
whole c s ga p row nr j k = adv c row (s ! (ga + j * p + k)) nr j k

abbrev pub advanced_low : List Float → ℕ → ℕ → ℕ → List Float → GramPlaces → ℕ → List Float
advanced_low m p row nr s pl n = mat s pl.ga p low (whole (cell m p s pl.ce pl.sc) s pl.ga p row nr) n

-- where things lie: centres and scales, the left panel, the right panel, the Gram
pub record Lie (m : List Float) (p row nr : ℕ) (s : List Float) (pl : GramPlaces) : Type 0 where
  pub matrix : (row + nr) * p ≤ length m
  pub rows : row + nr ≤ length m
  pub some : 1 ≤ pl.cc
  pub centres : pl.ce + p ≤ pl.le
  pub scales : pl.sc + p ≤ pl.le
  pub left : pl.le + nr * pl.cc ≤ pl.ri
  pub right : pl.ri + nr * pl.cc ≤ pl.ga
  pub gram : pl.ga + p * p ≤ length s
  pub fits : p + pl.cc ≤ length s

-- the same, and the left panel holds nj columns from jb * cc
pub record Pairs (m : List Float) (p row nr : ℕ) (s : List Float) (pl : GramPlaces) (jb nj : ℕ) : Type 0 where
  pub lie : Lie m p row nr s pl
  pub cols : jb * pl.cc + nj ≤ p
  pub width : nj ≤ pl.cc
  pub held : (i a : ℕ) → i < nr → a < nj → s ! (pl.le + i * pl.cc + a) ≡ cell m p s pl.ce pl.sc (row + i) (jb * pl.cc + a)

-- the same, and block jb begins within the matrix
pub record Column (m : List Float) (p row nr : ℕ) (s : List Float) (pl : GramPlaces) (jb : ℕ) : Type 0 where
  pub lie : Lie m p row nr s pl
  pub inside : jb * pl.cc < p

-- n rows, in blocks of rr
pub record Rows (m : List Float) (n p rr : ℕ) (s : List Float) (pl : GramPlaces) : Type 0 where
  pub matrix : n * p ≤ length m
  pub rows : n ≤ length m
  pub some : 1 ≤ pl.cc
  pub any : 1 ≤ rr
  pub centres : pl.ce + p ≤ pl.le
  pub scales : pl.sc + p ≤ pl.le
  pub left : pl.le + rr * pl.cc ≤ pl.ri
  pub right : pl.ri + rr * pl.cc ≤ pl.ga
  pub gram : pl.ga + p * p ≤ length s
  pub fits : p + pl.cc ≤ length s

-- the lower triangle is +0
abbrev pub Clear : List Float → ℕ → ℕ → Type 0
Clear s p ga = (j k : ℕ) → j < p → k < low j → s ! (ga + j * p + k) ≡ plus0

abbrev pub nones : ℕ → ℕ → Float
nones j k = plus0

-- ---- augmentation

-- times gg, and on the diagonal plus pp
abbrev pub raised : Float → Float → Bool → Float → Float
raised gg pp diagonal x = cond diagonal (x ⊗ gg ⊕ pp) (x ⊗ gg)

abbrev pub raised_at : List Float → ℕ → Float → Float → ℕ → ℕ → Float
raised_at s at gg pp j k = raised gg pp (eqb j k) (s ! (at + k))

-- ---- the whole

-- what all of it makes: the Gram of Gram.antt, with centres and scales read from s
unfoldable pub gram_at : ℕ → ℕ → Float → Float → List Float → List Float → ℕ → ℕ → List Float
gram_at n p gg pp m s ce sc = grid (λ j k. raised gg pp (eqb j k) (entry_of n p m (part s ce p) (part s sc p) j k)) p p
