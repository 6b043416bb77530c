-- The two ways out of a call of the lone solver. Assumes nothing.
use Rattle.std.specs.Prelude.{Result, ⊤, Ok, Err}
use mathlib.Core.Path.{◌≡◌, ap, ◌∙◌}
use mathlib.Core.List.{List}
use Prim.Native.Nat.{ℕ}
use lib.ListN.{length}
use lib.Ieee.{Float}
use Rattle.refusal.specs.declared.Refusal.{Refusal}
use Rattle.lone_rounds.specs.Loop.{Result as Ended, solved, Ran}
use Rattle.lone_solver.specs.Solve.{Outcome.outcome, checked, finished, solve_of}

module _ (n : ℕ) (a b x : List Float) (tol : Float) (limit : ℕ) (s : List Float) where
  pub refuses : (k : Result ⊤ Refusal) (r : Refusal) → k ≡ checked n a b x tol limit (length s) → k ≡ Err r → outcome (Err r) x s ≡ solve_of n a b x tol limit s
  unfolding solve_of
  refuses k r e t = rw (← e, t)

  pub solves : (k : Result ⊤ Refusal) (err : Float) (x' s' : List Float) → k ≡ checked n a b x tol limit (length s) → k ≡ Ok tt
      → Ran n (solved n a b x tol limit) s err x' s' → outcome (Ok err) x' s' ≡ solve_of n a b x tol limit s
  unfolding solve_of
  solves k err x' s' e t o = rw (← e, t) (ap (outcome (Ok err) x') o.left ∙ ap (λ (r : Ended). finished n r s) o.is)
