-- `arrays::sums::three_dots` meets its contract. The invariant: each sum has its first i products, from -0. Assumes nothing.
use Prim.Native.Nat.{ℕ, ◌≤◌}
use mathlib.Core.Path.{◌≡◌}
use mathlib.Core.List.{List}
use lib.Ieee.{Float}
use Rattle.arrays.specs.Part.{part}
use Rattle.arrays.specs.Sums.{◌!◌, products, minus0}
use Rattle.arrays.proofs.sums.three_dots.Given as goal

abbrev pub so_far : List Float → ℕ → ℕ → ℕ → ℕ → Float
so_far x a b n i = products minus0 (λ k. part x a n ! k) (λ k. part x b n ! k) i

abbrev pub invariant-loop-i : goal.invariant-loop-i
invariant-loop-i l = (l.i ≤ l.n) × (l.aa ≡ so_far l.x l.a l.a l.n l.i) × (l.bb ≡ so_far l.x l.b l.b l.n l.i) × (l.bc ≡ so_far l.x l.b l.c l.n l.i)
