-- How many elements the solver's products have. Assumes nothing.
use mathlib.Core.Path.{◌≡◌}
use mathlib.Core.List.{List}
use Prim.Native.Nat.{ℕ, ◌*◌}
use native.Mathlib.Omega.{arith}
use lib.ListN.{length, length-append}
use lib.Ieee.{Float}
use Rattle.arrays.proofs.Part.{length-tab}
use Rattle.inner_solver.specs.Inner.{halves, solved_of, times_of}

length-halves : (p : ℕ) (f g : ℕ → Float) → length (halves p f g) ≡ 2 * p
length-halves p f g = rw (length-append, length-tab f p, length-tab g p) (omega arith)

pub length-solved : (p : ℕ) (d1 d2 prb prs b : List Float) → length (solved_of p d1 d2 prb prs b) ≡ 2 * p
unfolding solved_of
length-solved p d1 d2 prb prs b = length-halves p _ _

pub length-times : (p : ℕ) (gram d1 d2 x : List Float) → length (times_of p gram d1 d2 x) ≡ 2 * p
unfolding times_of
length-times p gram d1 d2 x = length-halves p _ _
