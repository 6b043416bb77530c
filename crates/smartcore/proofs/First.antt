-- What the first round of solve_mut's loop does not read. Assumes nothing.
use mathlib.Core.Path.{◌≡◌, refl}
use mathlib.Core.List.{List}
use Prim.Native.Nat.{ℕ, suc}
use lib.Ieee.{Float}
use Rattle.smartcore.specs.BgSolver.{Solver, loop}

-- NEITHER pp NOR bkden, nor the error before: so the zeros that the Rust makes of them are as good as what another solve left
pub first_round : (self : Solver) (n : ℕ) (bnrm tol : Float) (left made : ℕ) (x r rr z pp pp' : List Float) (bkden bkden' error error' : Float)
    → loop self n bnrm tol (suc left) 1 made x r rr z pp bkden error ≡ loop self n bnrm tol (suc left) 1 made x r rr z pp' bkden' error'
unfolding loop
first_round self n bnrm tol left made x r rr z pp pp' bkden bkden' error error' = refl
