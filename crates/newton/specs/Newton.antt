-- The Newton terms of a round, in lasso_optimizer.rs's order, of weights w, bounds u, gradphi, which is x'z (g1_of doubles it), and the barrier's weight t.
-- Definitions only.
use Rattle.std.specs.Prelude.{◌≡◌, Bool, cond, List, ◌++◌, ℕ, ◌+◌, ◌≤◌, length, Float}
use Rattle.std.specs.Float.Ieee.{neg, le}
use Rattle.numbers.specs.Ops.{◌⊕◌, ◌⊖◌, ◌⊗◌, ◌⊘◌, f64}
use Rattle.numbers.specs.Order.{maximum_of, minimum_of}
use Rattle.numbers.specs.Constants.{half, one, two}
use Rattle.arrays.specs.Sums.{◌!◌, whole}
use Rattle.arrays.specs.Part.{tab}
use Rattle.arrays.specs.Vectors.{map_of, zip_of, Clear}

-- the Rust's parameters
-- 0.1
abbrev pub min_pcgtol : Float
min_pcgtol = f64 0x3fb9_9999_9999_999a

-- 0.001, which is also what the first t's most is divided by
abbrev pub eta : Float
eta = f64 0x3f50_624d_d2f1_a9fc

-- t at the start: `max(1, 1 / lambda)`, at most 2p / 0.001
unfoldable pub start_t : ℕ → Float → Float
start_t p lambda = minimum_of (maximum_of one (one ⊘ lambda)) (two ⊗ whole p ⊘ eta)

-- `if s >= 0.5 { t = t.max((2 * p * mu / gap).min(mu * t)) }`, with mu = 2
unfoldable pub next_t : ℕ → Float → Float → Float → Float
next_t p s gap t = cond (le half s) (maximum_of t (minimum_of (two ⊗ whole p ⊗ two ⊘ gap) (two ⊗ t))) t

-- q1 and q2
abbrev pub over_sum : Float → Float → Float
over_sum u w = one ⊘ (u ⊕ w)

abbrev pub over_difference : Float → Float → Float
over_difference u w = one ⊘ (u ⊖ w)

-- d1 and d2
abbrev pub sum_of_squares : Float → Float → Float → Float
sum_of_squares t q1 q2 = (q1 ⊗ q1 ⊕ q2 ⊗ q2) ⊘ t

abbrev pub difference_of_squares : Float → Float → Float → Float
difference_of_squares t q1 q2 = (q1 ⊗ q1 ⊖ q2 ⊗ q2) ⊘ t

-- g1, of gradphi, q1 and q2
unfoldable pub g1_of : ℕ → Float → List Float → List Float → List Float → List Float
g1_of p t gradphi q1 q2 = tab (λ i. two ⊗ gradphi ! i ⊖ (q1 ! i ⊖ q2 ! i) ⊘ t) p

-- grad: −g1, then −g2
abbrev pub g2_at : Float → Float → Float → Float → Float
g2_at lambda t q1 q2 = lambda ⊖ (q1 ⊕ q2) ⊘ t

unfoldable pub grad_of : ℕ → Float → Float → List Float → List Float → List Float → List Float
grad_of p lambda t g1 q1 q2 = map_of neg p g1 ++ zip_of (λ (a b : Float). neg (g2_at lambda t a b)) p q1 q2

-- prb and prs
abbrev pub prb_at : Float → Float
prb_at d1 = two ⊕ d1

unfoldable pub prs_of : ℕ → List Float → List Float → List Float → List Float
prs_of p prb d1 d2 = tab (λ i. prb ! i ⊗ d1 ! i ⊖ d2 ! i ⊗ d2 ! i) p

-- the solver's tolerance; `later` where this is not the first round and no solve has missed its tolerance
unfoldable pub tolerance : Bool → Float → Float → Float
tolerance later gap normg =
    let pcgtol = minimum_of min_pcgtol (eta ⊗ gap ⊘ minimum_of one normg) in
    cond later (pcgtol ⊗ min_pcgtol) pcgtol

-- one vector made of three, of the same length
pub record Three (s : List Float) (out a b c n : ℕ) : Type 0 where
  pub room : out + n ≤ length s
  pub first : a + n ≤ length s
  pub second : b + n ≤ length s
  pub third : c + n ≤ length s
  pub clear : Clear out a n
  pub clear2 : Clear out b n
  pub clear3 : Clear out c n

unfoldable pub zip3_of : (Float → Float → Float → Float) → ℕ → List Float → List Float → List Float → List Float
zip3_of g n xs ys zs = tab (λ i. g (xs ! i) (ys ! i) (zs ! i)) n

-- h is what a closure of three computes: `post` holds of what a call may return
abbrev pub GivesOfThree : (Float → Float → Float → Float → Type 0) → (Float → Float → Float → Float) → Type 0
GivesOfThree post h = (x y z r : Float) → post x y z r → r ≡ h x y z
