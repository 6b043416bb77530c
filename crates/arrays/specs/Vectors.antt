-- Vectors made element by element, and what a loop that makes one asks of its places. Definitions only.
use Rattle.std.specs.Prelude.{◌≡◌, List, ℕ, ◌+◌, ◌≤◌, ◌<◌, length, Float}
use Rattle.arrays.specs.Part.{tab}
use Rattle.arrays.specs.Sums.{◌!◌}

unfoldable pub map_of : (Float → Float) → ℕ → List Float → List Float
map_of g n xs = tab (λ i. g (xs ! i)) n

unfoldable pub zip_of : (Float → Float → Float) → ℕ → List Float → List Float → List Float
zip_of g n xs ys = tab (λ i. g (xs ! i) (ys ! i)) n

unfoldable pub fill_of : Float → ℕ → List Float
fill_of x n = tab (λ i. x) n

-- the n elements from `out`, which are written, and the n from `a` are the same or have none in common
abbrev pub Clear : ℕ → ℕ → ℕ → Type 0
Clear out a n = out < a + n → a < out + n → out ≡ a

-- one vector made of one, and of two, of the same length
pub record One (s : List Float) (out a n : ℕ) : Type 0 where
  pub room : out + n ≤ length s
  pub first : a + n ≤ length s
  pub clear : Clear out a n

pub record Two (s : List Float) (out a b n : ℕ) : Type 0 where
  pub room : out + n ≤ length s
  pub first : a + n ≤ length s
  pub second : b + n ≤ length s
  pub clear : Clear out a n
  pub clear2 : Clear out b n

-- h is what a closure computes: `post` holds of what a call may return
abbrev pub Gives : (Float → Float → Type 0) → (Float → Float) → Type 0
Gives post h = (x r : Float) → post x r → r ≡ h x

abbrev pub GivesOfTwo : (Float → Float → Float → Type 0) → (Float → Float → Float) → Type 0
GivesOfTwo post h = (x y r : Float) → post x y r → r ≡ h x y
