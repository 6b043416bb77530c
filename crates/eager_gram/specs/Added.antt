-- What adding rows to the Gram asks. Inner definitions: no promise names them.
use Rattle.std.specs.Prelude.{List, ℕ, ◌+◌, ◌*◌, ◌≤◌, length, Float}

-- a Gram, and n rows above it
pub record Added (s : List Float) (g p at n : ℕ) : Type 0 where
  pub above : g + p * p ≤ at
  pub room : at + n * p ≤ length s
