-- The lone solver: the refusals in 01's order, and what the lent memory holds after a call. Definitions only.
use Rattle.refusal.specs.declared.Refusal.{Refusal}
use Rattle.std.specs.Prelude.{not, ◌&&◌, List, ◌++◌, ℕ, ◌*◌, leb, eqb, length, drop, Float, Result, ⊤, Ok, Err}
use Rattle.std.specs.Float.Ieee.{le}
use Rattle.std.specs.Float.Ieee.Scale.{finite}
use Rattle.arrays.specs.Sums.{plus0}
use Rattle.arrays.specs.Vectors.{fill_of}
use Rattle.arrays.specs.Scan.{first_infinite}
use Rattle.refusal.specs.declared.Refusal.TheVariants.{Size, Length, Setting, Scratch, Tolerance, NoRounds}
use Rattle.refusal.specs.Refusal.{number_of, place_of}
use Rattle.refusal.specs.Checks.{ask, ask_values}
use Rattle.lone_rounds.specs.Loop.{Result as Ended, Result.found, solved}

-- ---- the refusals

-- 5 (matrix, right side, start, as one list), 8, 10
unfoldable pub valued : List Float → List Float → List Float → Float → ℕ → Result ⊤ Refusal
valued a b x tol limit =
    ask_values (first_infinite 0 (a ++ b ++ x)) (ask (not (le tol plus0)) Tolerance (ask (not (eqb limit 0)) NoRounds (Ok tt)))

-- 1, 2, 3, 4, then these
unfoldable pub checked : ℕ → List Float → List Float → List Float → Float → ℕ → ℕ → Result ⊤ Refusal
checked n a b x tol limit room =
    ask (leb 1 n && leb n 64) Size
    (ask (eqb (length a) (n * n) && eqb (length b) n && eqb (length x) n) Length
    (ask (leb limit 5000 && finite tol) Setting
    (ask (leb (8 * n) room) Scratch
    (valued a b x tol limit))))

-- ---- the whole call: the answer, and the final content of the solution and the scratch

pub data Outcome : Type 0 where
  outcome : Result Float Refusal → List Float → List Float → Outcome

-- finished, the 8n words of scratch are +0, and the excess is as it was
abbrev pub finished : ℕ → Ended → List Float → Outcome
finished n (found err x) s = outcome (Ok err) x (fill_of plus0 (8 * n) ++ drop (8 * n) s)

-- a refusal changes nothing
abbrev pub by_check : Result ⊤ Refusal → List Float → List Float → Outcome → Outcome
by_check (Ok tt) x s o = o
by_check (Err r) x s o = outcome (Err r) x s

unfoldable pub solve_of : ℕ → List Float → List Float → List Float → Float → ℕ → List Float → Outcome
solve_of n a b x tol limit s = by_check (checked n a b x tol limit (length s)) x s (finished n (solved n a b x tol limit) s)

-- 01's number and place, and the values
pub data Said : Type 0 where
  error : Float → Said
  refused : ℕ → ℕ → Said

abbrev pub said : Result Float Refusal → Said
said (Ok err) = error err
said (Err r) = refused (number_of r) (place_of r)
