-- The design that is not stored, of lazy_normalization.rs: its products with a vector. Definitions only.
use Rattle.std.specs.Prelude.{Bool, cond, ◌&&◌, List, ◌++◌, ℕ, ◌+◌, ◌*◌, ◌≤◌, ◌<◌, length, Float}
use Rattle.std.specs.Float.Ieee.{eq, le, lt}
use Rattle.numbers.specs.Ops.{◌⊕◌, ◌⊖◌, ◌⊗◌, ◌⊘◌, f64, magnitude_of}
use Rattle.numbers.specs.Constants.{one}
use Rattle.arrays.specs.Part.{tab}
use Rattle.arrays.specs.Sums.{◌!◌, products, plus0}
use Rattle.layout.specs.declared.Sizes.{Sizes}
use Rattle.layout.specs.declared.Places.{Places}
use Rattle.layout.specs.Slots.{Store, ◌⟨◌≔◌⟩}
use Rattle.layout.specs.Slots.{Slot.SCALE, Slot.RECIP}
use Rattle.settings.specs.declared.Terms.{Terms}

-- is_normal: finite, and not below 2 ^ -1022 in magnitude
unfoldable pub is_normal : Float → Bool
is_normal x = le (f64 0x0010_0000_0000_0000) (magnitude_of x) && lt (magnitude_of x) (f64 0x7ff0_0000_0000_0000)

-- the reciprocal of a scale where both are normal, and +0, which stands for division, where not
unfoldable pub reciprocal_of : Float → Float
reciprocal_of scale = cond (is_normal scale && is_normal (one ⊘ scale)) (one ⊘ scale) plus0

-- a number less its column's centre, by its scale or times its reciprocal
unfoldable pub normalised : Float → Float → Float → Float → Float
normalised raw centre scale reciprocal = cond (eq reciprocal plus0) ((raw ⊖ centre) ⊘ scale) ((raw ⊖ centre) ⊗ reciprocal)

-- row i, column j of the design's first n rows before gamma, as a product takes it
abbrev pub lazy_at : ℕ → List Float → List Float → List Float → List Float → ℕ → ℕ → Float
lazy_at p m ce sc rc i j = normalised (m ! (i * p + j)) (ce ! j) (sc ! j) (rc ! j)

-- matvec: row sums from +0 in column order, then times gamma; then padding times x
unfoldable pub lazy_rows : ℕ → ℕ → Terms → List Float → List Float → List Float → List Float → List Float → List Float
lazy_rows n p t m ce sc rc xs =
    tab (λ i. products plus0 (λ j. lazy_at p m ce sc rc i j) (λ j. xs ! j) p ⊗ t.gamma) n ++ tab (λ j. t.padding ⊗ xs ! j) p

-- transpose_matvec: column sums from +0 in row order; then gamma times the sum, plus padding times the tail
unfoldable pub lazy_columns : ℕ → ℕ → Terms → List Float → List Float → List Float → List Float → List Float → List Float
lazy_columns n p t m ce sc rc xs =
    tab (λ j. t.gamma ⊗ products plus0 (λ i. lazy_at p m ce sc rc i j) (λ i. xs ! i) n ⊕ t.padding ⊗ xs ! (n + j)) p

-- ---- over the store

unfoldable pub recip_store : Sizes → Store → Store
recip_store sh v = v ⟨ RECIP ≔ (λ u. tab (λ j. reciprocal_of (u SCALE ! j)) sh.p) ⟩

-- ---- what the functions ask

-- a lent matrix of n by p; centres, scales and reciprocals in s; a vector of nv elements that is read and one of no elsewhere that is written
pub record Reads (m : List Float) (n p : ℕ) (s : List Float) (l : Places) (v nv out no : ℕ) : Type 0 where
  pub matrix : n * p ≤ length m
  pub rows : n ≤ 4096
  pub columns : p ≤ 64
  pub centres : l.centre + p ≤ l.scale
  pub scales : l.scale + p ≤ l.recip
  pub reciprocals : l.recip + p ≤ length s
  pub vector : v + nv ≤ length s
  pub room : out + no ≤ length s
  pub off-columns : out < l.recip + p → out + no ≤ l.centre
  pub off-vector : out < v + nv → out + no ≤ v
