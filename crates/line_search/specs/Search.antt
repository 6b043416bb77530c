-- The line search's vectors and sums, of lasso_optimizer.rs: f, its largest element, the sum of logarithms, phi, and the test of a trial. Definitions only.
use Rattle.std.specs.Prelude.{Bool, true, cond, List, [], ◌∷◌, ℕ, ◌+◌, ◌*◌, ◌≤◌, ◌<◌, eqb, length, Float}
use Rattle.std.specs.Float.{inf}
use Rattle.std.specs.Float.Ieee.{neg, le}
use Rattle.numbers.specs.Ops.{◌⊕◌, ◌⊖◌, ◌⊗◌, ◌⊘◌, f64}
use Rattle.numbers.specs.Order.{maximum_of}
use Rattle.logarithm.specs.Log.{ln_of}
use Rattle.arrays.specs.Sums.{◌!◌, fold_to, sum_to, plus0}
use Rattle.matrices.specs.Grid.{grid}

-- f: p rows of w − u and −w − u
unfoldable pub faces_of : ℕ → List Float → List Float → List Float
faces_of p ws us = grid (λ i c. cond (eqb c 0) (ws ! i ⊖ us ! i) (neg (ws ! i) ⊖ us ! i)) p 2

-- the same by recursion on the two vectors
abbrev pub faces_list : List Float → List Float → List Float
faces_list [] us = []
faces_list (w ∷ ws) [] = []
faces_list (w ∷ ws) (u ∷ us) = (w ⊖ u) ∷ (neg w ⊖ u) ∷ faces_list ws us

-- fold(−infinity, |max, v| v.max(max))
unfoldable pub largest_of : ℕ → List Float → Float
largest_of n fs = fold_to (λ (max v : Float). maximum_of v max) (inf true) (λ i. fs ! i) n

-- column 0, then column 1 of each row
unfoldable pub sumlogneg_of : ℕ → List Float → Float
sumlogneg_of n fs = sum_to plus0 (λ i. ln_of (neg (fs ! i))) n

-- z·z + lambda·sum u − sumlogneg / t, of these numbers
unfoldable pub phi_of : Float → Float → Float → Float → Float → Float
phi_of lambda t zz sumu logs = zz ⊕ lambda ⊗ sumu ⊖ logs ⊘ t

-- alpha, 0.01
abbrev pub alpha : Float
alpha = f64 0x3f84_7ae1_47ae_147b

-- `newphi - phi <= alpha * s * gdx`
unfoldable pub decreases : Float → Float → Float → Float → Bool
decreases newphi phi s gdx = le (newphi ⊖ phi) (alpha ⊗ s ⊗ gdx)

-- w and u of p elements, and room for f elsewhere
pub record Faces (s : List Float) (out w u p : ℕ) : Type 0 where
  pub first : w + p ≤ length s
  pub second : u + p ≤ length s
  pub room : out + p * 2 ≤ length s
  pub off-first : out < w + p → out + p * 2 ≤ w
  pub off-second : out < u + p → out + p * 2 ≤ u
