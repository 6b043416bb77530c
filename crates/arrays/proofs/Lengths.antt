-- The lengths of vectors made element by element. Assumes nothing.
use mathlib.Core.Path.{◌≡◌}
use mathlib.Core.List.{List}
use Prim.Native.Nat.{ℕ}
use lib.ListN.{length}
use lib.Ieee.{Float}
use Rattle.arrays.specs.Sums.{◌!◌}
use Rattle.arrays.specs.Vectors.{map_of, zip_of, fill_of}
use Rattle.arrays.proofs.Part.{length-tab}

pub length-map : (g : Float → Float) (n : ℕ) (xs : List Float) → length (map_of g n xs) ≡ n
unfolding map_of
length-map g n xs = length-tab (λ i. g (xs ! i)) n

pub length-zip : (g : Float → Float → Float) (n : ℕ) (xs ys : List Float) → length (zip_of g n xs ys) ≡ n
unfolding zip_of
length-zip g n xs ys = length-tab (λ i. g (xs ! i) (ys ! i)) n

pub length-fill : (x : Float) (n : ℕ) → length (fill_of x n) ≡ n
unfolding fill_of
length-fill x n = length-tab (λ i. x) n
