-- What the comparison of numbers with words promises. Definitions only.
use Rattle.std.specs.Prelude.{ℕ, Bool, true, false, List, map, from_bits, to_bits, Float}
use Rattle.std.specs.Float.{binary64}

-- the numbers that the words are the bits of, and the other way round
unfoldable pub numbers_of : List ℕ → List Float
numbers_of w = map (from_bits binary64) w

unfoldable pub bits_of : List Float → List ℕ
bits_of x = map (to_bits binary64) x

-- the answer to a question
abbrev pub Says : Bool → Type 0 → Type 0
Says true p = p
Says false p = p → ⊥
