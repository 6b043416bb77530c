-- 5 and 6 by the scans of matrix and targets, one after the other. Assumes nothing.
use Rattle.std.specs.Prelude.{Option, ⊤, Ok}
use mathlib.Core.Path.{◌≡◌}
use mathlib.Core.Bool.{Bool, cond}
use mathlib.Core.List.{List}
use Prim.Native.Nat.{ℕ}
use native.Mathlib.Nat.{zero-add}
use lib.ListN.{length}
use lib.Ieee.{Float}
use Rattle.arrays.specs.Scan.{first_infinite}
use Rattle.refusal.specs.Checks.{found_at}
use Rattle.refusal.proofs.Asking.{then, values-last, values-more}
use Rattle.design.specs.Statistics.{constant_of}
use Rattle.checks.specs.Checks.{ask_constant, start_values}

module _ (x y : List Float) (n p : ℕ) (normalise : Bool) where
  pub by-scans : start_values x y n p normalise
      ≡ then (found_at (first_infinite 0 x) 0) (then (found_at (first_infinite 0 y) (length x)) (cond normalise (ask_constant (constant_of x n p)) (Ok tt)))
  unfolding start_values
  by-scans = rw (values-more 0 x _ y, zero-add (length x), values-last (length x) y)

  -- both find nothing: what is left is 6
  pub all-finite : (f g : Option ℕ) (from : ℕ) (u v : ⊤) → f ≡ first_infinite 0 x → g ≡ first_infinite 0 y → length x ≡ from
      → found_at f 0 ≡ Ok u → found_at g from ≡ Ok v → start_values x y n p normalise ≡ cond normalise (ask_constant (constant_of x n p)) (Ok tt)
  all-finite f g from u v ef eg l cf cg = rw (by-scans, ← ef, ← eg, cf, l, cg)
