-- A matrix by rows from its entries. Definition only.
use Rattle.std.specs.Prelude.{List, [], ◌++◌, ℕ, zero, suc, Float}
use Rattle.arrays.specs.Part.{tab}

-- f 0 0, f 0 1, .., f 1 0, ..: `rows` rows of `cols` entries
unfoldable pub grid : (ℕ → ℕ → Float) → ℕ → ℕ → List Float
grid f zero cols = []
grid f (suc rows) cols = grid f rows cols ++ tab (f rows) cols
