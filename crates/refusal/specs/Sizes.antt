-- The sizes of a fit: 01's ranges of rows and columns. Definitions only.
use Rattle.std.specs.Prelude.{Bool, ◌&&◌, ℕ, leb}

-- n rows and p columns; where they are not, it is 1
abbrev pub in_size : ℕ → ℕ → Bool
in_size n p = leb 1 n && leb n 4096 && leb 1 p && leb p 64
