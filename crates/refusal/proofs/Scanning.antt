-- A find in a slice, with the place that a refusal gives it. Assumes nothing.
use mathlib.Core.Path.{◌≡◌, sym, ◌∙◌}
use mathlib.Core.List.{List}
use Prim.Native.Nat.{ℕ, ◌+◌, ◌^◌, ◌≤◌, ◌<◌}
use native.Mathlib.Omega.{arith}
use lib.ListN.{length}
use lib.Ieee.{Float}
use Rattle.std.specs.Prelude.{Option, None, Some}
use Rattle.arrays.specs.Scan.{first_infinite}
use Rattle.arrays.proofs.Scans.{Below, scan-below}
use Rattle.refusal.specs.Checks.{Near}

-- a find in a slice, which has less than 2 ^ 60 elements
pub near : (f : Option ℕ) (a : List Float) (from : ℕ) → f ≡ first_infinite 0 a → length a < 2 ^ 60 → from ≤ 1048576 → Near f from
near f a from e l h = rw e (go (first_infinite 0 a) (scan-below 0 a)) where
  go : (g : Option ℕ) → Below g (0 + length a) → Near g from
  go None b = h
  go (Some k) b = (h, omega arith)
