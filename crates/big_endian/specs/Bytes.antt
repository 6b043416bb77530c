-- Whole numbers and floats in bytes, the highest byte first, both ways. Definitions only.
use Rattle.std.specs.Prelude.{List, [], ◌∷◌, ◌++◌, ℕ, zero, suc, ◌+◌, ◌*◌, ◌/◌, ◌%◌, get_or, Float}
use Rattle.std.specs.Float.{binary64}
use Rattle.std.specs.Float.Ieee.{to_bits}
use Rattle.numbers.specs.Ops.{f64}

-- the k bytes from `at`
unfoldable pub big_endian : List ℕ → ℕ → ℕ → ℕ
big_endian b at zero = 0
big_endian b at (suc k) = big_endian b at k * 256 + get_or b (at + k) 0

abbrev pub two_bytes : List ℕ → ℕ → ℕ
two_bytes b at = big_endian b at 2

abbrev pub four_bytes : List ℕ → ℕ → ℕ
four_bytes b at = big_endian b at 4

abbrev pub float_at : List ℕ → ℕ → Float
float_at b at = f64 (big_endian b at 8)

-- v's k low bytes
unfoldable pub bytes_of : ℕ → ℕ → List ℕ
bytes_of zero v = []
bytes_of (suc k) v = bytes_of k (v / 256) ++ (v % 256 ∷ [])

-- the bits of a float; a NaN has one pattern
abbrev pub float_bytes : Float → List ℕ
float_bytes x = bytes_of 8 (to_bits binary64 x)
