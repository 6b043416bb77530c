-- What a run of words says. Definitions only.
use Rattle.std.specs.Prelude.{◌≡◌, ℕ, zero, suc, ◌+◌, cond, List, [], ◌∷◌, ◌++◌, Option, None, Some, Result, Ok, Err, length, drop, ◌==◌}
use Rattle.stored.specs.Words.{word_at}

abbrev pub leading : Option ℕ → List ℕ → List ℕ
leading (Some x) rest = x ∷ rest
leading None rest = []

-- the numbers of the n words from byte `at` on, up to the first word that is bad
unfoldable pub numbers_from : ℕ → ℕ → List ℕ → List ℕ
numbers_from zero at s = []
numbers_from (suc n) at s = leading (word_at s at) (numbers_from n (at + 17) s)

-- all n, or the place of the word that stopped them
unfoldable pub parsed_of : ℕ → List ℕ → Result Unit ℕ
parsed_of n xs = cond (length xs == n) (Ok tt) (Err (length xs))

-- the numbers at the front of `out`, and the rest as it was
pub record RunRead (s : List ℕ) (n : ℕ) (out : List ℕ) (r : Result Unit ℕ) (out' : List ℕ) : Type 0 where
  pub answer : r ≡ parsed_of n (numbers_from n 0 s)
  pub filled : out' ≡ numbers_from n 0 s ++ drop (length (numbers_from n 0 s)) out
