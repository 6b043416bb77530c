-- The statistics of the columns, the test for a constant one, and the centred targets: elastic_net.rs, and the optimiser's first line. Definitions only.
use Rattle.std.specs.Prelude.{Bool, true, false, cond, List, ◌++◌, ◌≡◌, ℕ, zero, suc, ◌+◌, ◌*◌, ◌≤◌, length, Float, Option, None, Some}
use Rattle.std.specs.Float.Ieee.{lt}
use Rattle.numbers.specs.Ops.{◌⊖◌, magnitude_of}
use Rattle.numbers.specs.Constants.{one, epsilon}
use Rattle.arrays.specs.Part.{part, tab}
use Rattle.arrays.specs.Sums.{plus0, mean_of}
use Rattle.arrays.specs.Vectors.{map_of, fill_of}
use Rattle.column_moments.specs.Stats.{column_mean_of, deviation_of}
use Rattle.layout.specs.declared.Sizes.{Sizes}
use Rattle.layout.specs.declared.Places.{Places}
use Rattle.layout.specs.Slots.{Store, Room, ◌⟨◌≔◌⟩}
use Rattle.layout.specs.Slots.{Slot.CENTRE, Slot.SCALE, Slot.Y}

-- normalization_stats refuses such a column; of a NaN deviation the test is false
unfoldable pub is_constant : List Float → ℕ → ℕ → ℕ → Bool
is_constant m n p j = lt (magnitude_of (deviation_of m n p j ⊖ plus0)) epsilon

-- the lowest constant column, from j on, `left` columns
unfoldable pub constant_from : List Float → ℕ → ℕ → ℕ → ℕ → Option ℕ
constant_from m n p zero j = None
constant_from m n p (suc left) j = elim (is_constant m n p j) [
  | true ↦ Some j
  | false ↦ constant_from m n p left (j + 1)
]

abbrev pub constant_of : List Float → ℕ → ℕ → Option ℕ
constant_of m n p = constant_from m n p p 0

-- means and deviations; unnormalised 0 and 1
unfoldable pub centres_of : Bool → List Float → ℕ → ℕ → List Float
centres_of normalise m n p = cond normalise (tab (column_mean_of m n p) p) (fill_of plus0 p)

unfoldable pub scales_of : Bool → List Float → ℕ → ℕ → List Float
scales_of normalise m n p = cond normalise (tab (deviation_of m n p) p) (fill_of one p)

unfoldable pub statistics_store : Sizes → Bool → List Float → Store → Store
statistics_store sh normalise m v =
    v
    ⟨ CENTRE ≔ (λ u. centres_of normalise m sh.n sh.p) ⟩
    ⟨ SCALE ≔ (λ u. scales_of normalise m sh.n sh.p) ⟩

-- the targets with p zeros, less the mean over all n + p of them: the zeros move too
unfoldable pub centred_of : ℕ → ℕ → List Float → List Float
centred_of n p ys =
    let y2 = part ys 0 n ++ fill_of plus0 p in
    map_of (λ (v : Float). v ⊖ mean_of (n + p) y2) (n + p) y2

unfoldable pub targets_store : Sizes → List Float → Store → Store
targets_store sh ys v = v ⟨ Y ≔ (λ u. centred_of sh.n sh.p ys) ⟩

-- a matrix of n by p, and scratch
pub record Given (sh : Sizes) (l : Places) (m s : List Float) : Type 0 where
  pub room : Room sh l s
  pub matrix : sh.n * sh.p ≤ length m
  pub rows : sh.n ≤ 4096
  pub columns : sh.p ≤ 64

-- n targets, and scratch
pub record Targets (sh : Sizes) (l : Places) (ys s : List Float) : Type 0 where
  pub room : Room sh l s
  pub targets : length ys ≡ sh.n
  pub all : sh.k ≡ sh.n + sh.p
  pub rows : sh.n ≤ 4096
  pub columns : sh.p ≤ 64
