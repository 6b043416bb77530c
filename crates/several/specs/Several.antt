-- What is written or added several at a time. Inner definitions: no promise names them.
use Rattle.std.specs.Prelude.{List, ℕ, zero, suc, ◌+◌, ◌*◌, ◌≤◌, ◌<◌, length, set, Float}
use Rattle.numbers.specs.Ops.{◌⊗◌}
use Rattle.arrays.specs.Sums.{◌!◌, sum_to}
use Rattle.arrays.specs.Vectors.{Clear}

-- s with the first `count` of f written from `out` on, `apart` from each other
unfoldable pub spread_of : List Float → ℕ → ℕ → (ℕ → Float) → ℕ → List Float
spread_of s out apart f zero = s
spread_of s out apart f (suc count) = set (spread_of s out apart f count) (out + count * apart) (f count)

-- element j of those of t from `out`, and what f makes of the elements j of `count` vectors of s, which lie `apart` from each other from r on, added in turn
unfoldable pub gathered : (ℕ → Float → Float) → List Float → ℕ → List Float → ℕ → ℕ → ℕ → ℕ → Float
gathered f t out s r apart count j = sum_to (t ! (out + j)) (λ k. f k (s ! (r + k * apart + j))) count

-- their products with the numbers of f
unfoldable pub added_of : List Float → ℕ → List Float → (ℕ → Float) → ℕ → ℕ → ℕ → ℕ → Float
added_of t out s f r apart count j = gathered (λ k v. f k ⊗ v) t out s r apart count j

-- one vector made of itself and four that lie `apart` from each other
pub record Four (s : List Float) (out r apart n : ℕ) : Type 0 where
  pub room : out + n ≤ length s
  pub last : r + 3 * apart + n ≤ length s
  pub clear : (k : ℕ) → k < 4 → Clear out (r + k * apart) n
