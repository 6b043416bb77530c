-- The statistics have an element to each column. Assumes nothing.
use mathlib.Core.Path.{◌≡◌}
use mathlib.Core.Bool.{Bool, true, false}
use mathlib.Core.List.{List}
use Prim.Native.Nat.{ℕ}
use lib.ListN.{length}
use lib.Ieee.{Float}
use Rattle.arrays.proofs.Part.{length-tab}
use Rattle.arrays.proofs.Lengths.{length-fill}
use Rattle.design.specs.Statistics.{centres_of, scales_of}

pub length-centres : (normalise : Bool) (m : List Float) (n p : ℕ) → length (centres_of normalise m n p) ≡ p
unfolding centres_of
length-centres true m n p = length-tab _ p
length-centres false m n p = length-fill _ p

pub length-scales : (normalise : Bool) (m : List Float) (n p : ℕ) → length (scales_of normalise m n p) ≡ p
unfolding scales_of
length-scales true m n p = length-tab _ p
length-scales false m n p = length-fill _ p
