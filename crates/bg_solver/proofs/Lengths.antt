-- How many elements the new directions have. Assumes nothing.
use mathlib.Core.Path.{◌≡◌}
use mathlib.Core.Bool.{Bool, true, false}
use mathlib.Core.List.{List}
use Prim.Native.Nat.{ℕ}
use lib.ListN.{length}
use lib.Ieee.{Float}
use Rattle.arrays.proofs.Lengths.{length-zip}
use Rattle.bg_solver.specs.Shared.{aimed}

pub length-aimed : (first : Bool) (bk : Float) (n : ℕ) (pp z : List Float) → length z ≡ n → length (aimed first bk n pp z) ≡ n
length-aimed true bk n pp z h = h
length-aimed false bk n pp z h = length-zip _ n pp z
