-- `stored::words::read_words` meets its contract. The loop's invariant: the numbers are those in front of i and then those of the words from byte
-- 17 * i on, and nothing behind i is written. Assumes nothing.
use Rattle.std.proofs.Common.{◌≡◌, ℕ, ◌-◌, ◌*◌, ◌≤◌, List, ◌++◌, length, take, drop}
use Rattle.stored.specs.Runs.{numbers_from}
use Rattle.stored.proofs.words.read_words.Given as goal

pub record Reading (s : List ℕ) (out₀ out : List ℕ) (i : ℕ) : Type 0 where
  pub upto : i ≤ length out₀
  pub within : 17 * i ≤ length s
  pub long : length out ≡ length out₀
  pub is : numbers_from (length out₀) 0 s ≡ take i out ++ numbers_from (length out₀ - i) (17 * i) s
  pub rest : drop i out ≡ drop i out₀

abbrev pub invariant-loop-i : goal.invariant-loop-i
invariant-loop-i l = Reading l.s l.initial.out l.out l.i
