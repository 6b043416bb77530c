-- How many elements g1, grad and prs have. Assumes nothing.
use mathlib.Core.Path.{◌≡◌}
use mathlib.Core.List.{List}
use Prim.Native.Nat.{ℕ, ◌*◌}
use native.Mathlib.Omega.{arith}
use lib.ListN.{length, length-append}
use lib.Ieee.{Float, neg}
use Rattle.arrays.proofs.Part.{length-tab}
use Rattle.arrays.proofs.Lengths.{length-map, length-zip}
use Rattle.newton.specs.Newton.{g1_of, g2_at, grad_of, prs_of}

pub length-g1 : (p : ℕ) (t : Float) (xs q1 q2 : List Float) → length (g1_of p t xs q1 q2) ≡ p
unfolding g1_of
length-g1 p t xs q1 q2 = length-tab _ p

pub length-grad : (p : ℕ) (lambda t : Float) (g1 q1 q2 : List Float) → length (grad_of p lambda t g1 q1 q2) ≡ 2 * p
unfolding grad_of
length-grad p lambda t g1 q1 q2 = rw (length-append, length-map neg p g1, length-zip (λ (a b : Float). neg (g2_at lambda t a b)) p q1 q2) (omega arith)

pub length-prs : (p : ℕ) (prb d1 d2 : List Float) → length (prs_of p prb d1 d2) ≡ p
unfolding prs_of
length-prs p prb d1 d2 = length-tab _ p
