-- The lone solver: solve_mut's loop, and what a run of it leaves. Definitions only.
use Rattle.std.specs.Prelude.{◌≡◌, true, false, List, ◌++◌, ℕ, zero, suc, ◌+◌, ◌-◌, ◌*◌, ◌≤◌, eqb, length, drop, Float}
use Rattle.std.specs.Float.Ieee.{le}
use Rattle.arrays.specs.Sums.{plus0, norm_two_of}
use Rattle.arrays.specs.Part.{part}
use Rattle.arrays.specs.Vectors.{fill_of}
use Rattle.bg_solver.specs.Solver.{System, Work, begun, turned, error_of}
use Rattle.lone_rounds.specs.Lone.{lone_system, diagonal_of, work_in, Loops}

-- ---- solve_mut's loop

-- the error and the solution
pub data Result : Type 0 where
  found : Float → List Float → Result

module _ (A : System) (bnrm tol : Float) where
  -- `left` rounds are left, and the next is number iter
  unfoldable pub loop : ℕ → ℕ → Float → Float → Work → Result
  loop zero iter bkden err w = found err w.x
  loop (suc left) iter bkden err w =
      let o = turned A (eqb iter 1) bkden w in
      let e = error_of A bnrm o.work in
      elim (le e tol) [
        | true ↦ found e o.work.x
        | false ↦ loop left (iter + 1) o.bkden e o.work
      ]

-- with vectors of zeros around the start x; iter goes from 1 to below the limit
unfoldable pub solved : ℕ → List Float → List Float → List Float → Float → ℕ → Result
solved n a b x tol limit =
    let A = lone_system n a in
    let o = fill_of plus0 n in
    let w : Work = record { x = x; r = o; rr = o; z = o; zz = o; p = o; pp = o } in
    loop A (norm_two_of n b) tol (limit - 1) 1 plus0 plus0 (begun A b w)

-- ---- what the inner functions promise

-- the result, and the scratch: +0 in its eight vectors, the excess as it was
pub record Ran (n : ℕ) (o : Result) (s : List Float) (err : Float) (x s' : List Float) : Type 0 where
  pub is : found err x ≡ o
  pub left : s' ≡ fill_of plus0 (8 * n) ++ drop (8 * n) s

-- what `run` asks
pub record Runs (n : ℕ) (a b x : List Float) (limit : ℕ) (s : List Float) : Type 0 where
  pub loops : Loops n a s
  pub right : length b ≡ n
  pub start : length x ≡ n
  pub rounds : limit ≤ 5000

-- the rounds, from a scratch whose diagonal is in its place: the error, the solution in X, and the excess
pub record Looped (n : ℕ) (a : List Float) (bnrm tol : Float) (limit : ℕ) (m : List Float) (err : Float) (m' : List Float) : Type 0 where
  pub is : part m (7 * n) n ≡ diagonal_of n a → found err (part m' 0 n) ≡ loop (lone_system n a) bnrm tol (limit - 1) 1 plus0 plus0 (work_in n m)
  pub rest : part m (7 * n) n ≡ diagonal_of n a → drop (8 * n) m' ≡ drop (8 * n) m
