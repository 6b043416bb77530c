-- What holds of weights, bounds and t at every start, opened round and accepted trial of a fit. Definitions only.
use Rattle.std.specs.Prelude.{◌≡◌, false, List, ℕ, ◌+◌, ◌<◌, pos, T, length, Float}
use Rattle.std.specs.Float.{fin}
use Rattle.std.specs.Float.Ieee.{neg, lt, le}
use Rattle.std.specs.Float.Ieee.Scale.{finite}
use Rattle.numbers.specs.Kinds.{one}
use Rattle.arrays.specs.Sums.{◌!◌}

-- a weight w strictly within its finite bound u
pub record Inside (w u : Float) : Type 0 where
  pub weight-finite : T (finite w)
  pub bound-finite : T (finite u)
  pub over : T (lt (neg u) w)
  pub beneath : T (lt w u)

-- 2 ^ k
abbrev pub power2 : ℕ → Float
power2 k = fin false 1 (pos k)

-- t after k rounds were opened
pub record Bounded (k : ℕ) (t : Float) : Type 0 where
  pub at_least : T (le one t)
  pub at_most : T (le t (power2 (17 + k)))

-- a fit with p columns after k rounds were opened
pub record Guarded (p k : ℕ) (t : Float) (ws us : List Float) : Type 0 where
  pub columns : length ws ≡ p
  pub bounds : length us ≡ p
  pub inside : (i : ℕ) → i < p → Inside (ws ! i) (us ! i)
  pub barrier : Bounded k t
