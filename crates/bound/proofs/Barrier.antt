-- t is finite and at least 1 for as long as there are rounds: it starts at 2 ^ 17 at most, and a round at most doubles it,
-- whatever lambda and the gap are. Assumes nothing.
use mathlib.Core.Path.{◌≡◌, sym, subst}
use mathlib.Core.Logic.{inl, inr}
use Prim.Native.Nat.{ℕ, zero, suc, ◌+◌, ◌≤◌, ◌<◌}
use native.Mathlib.Nat.{lt_irrefl, lt_of_lt_of_le, eq-or-lt_of_le, le_of_suc-le-suc}
use native.Mathlib.Omega.{arith}
use mathlib.Core.Bool.{Bool, true, false, ◌&&◌, cond}
use lib.Dec.{T}
use lib.Ieee.{Float, binary64, mul, div, le, of_int, of_bits}
use lib.Ieee.Fits.{and_l, and_r}
use lib.Ieee.Scale.{finite}
use lib.Ieee.Positive.{positive, positive-finite, le_trans_positive, between, mul_mono}
use Rattle.numbers.specs.Kinds.{one, two}
use Rattle.numbers.specs.Ops.{◌⊗◌, ◌⊘◌}
use Rattle.numbers.specs.Order.{maximum_of, minimum_of}
use Rattle.numbers.proofs.Extremes.{maximum-cases, minimum-cases}
use Rattle.numbers.proofs.PowersOfTwo.{le-self, power_le, double-positive, double-le}
use Rattle.numbers.specs.Constants.{half}
use Rattle.arrays.specs.Sums.{whole}
use Rattle.newton.specs.Newton.{eta, start_t, next_t}
use Rattle.bound.specs.Guarded.{power2, Bounded}

pub bounded-positive : (k : ℕ) (t : Float) → Bounded k t → T (positive t)
bounded-positive k t b = between one t (power2 (17 + k)) tt tt b.at_least b.at_most

pub bounded-finite : (k : ℕ) (t : Float) → Bounded k t → T (finite t) × T (positive t)
bounded-finite k t b = let p = bounded-positive k t b in (positive-finite t p, p)

pub later : (j k : ℕ) (t : Float) → j ≤ k → Bounded j t → Bounded k t
later j k t h b = record {
  at_least = b.at_least;
  at_most =
      le_trans_positive t (power2 (17 + j)) (power2 (17 + k)) (bounded-positive j t b) tt tt b.at_most (power_le (17 + j) (17 + k) (omega arith));
}

-- ---- a round
minimum-le : (q x : Float) → T (positive x) → T (le (minimum_of q x) x)
minimum-le q x p = elim (minimum-cases q x p) [
  | inl e ↦ subst (λ (z : Float). T (le z x)) (sym e) (le-self x p)
  | inr e ↦ subst (λ (z : Float). T (le z x)) (sym e.0) e.1
]

two-positive : T (positive (two ⊗ one))
unfolding mul
two-positive = tt

-- twice t, for t up to 2 ^ j
twice : (j : ℕ) (t : Float) → suc j < 1024 → T (positive t) → T (le one t) → T (le t (power2 j)) → T (positive (two ⊗ t)) × T (le (two ⊗ t) (power2 (suc j)))
twice j t room p lo hi =
    let y = two ⊗ power2 j in
    let y-pos = double-positive j room in
    let x-le-y = mul_mono binary64 two two t (power2 j) tt tt p tt (le-self two tt) hi in
    let x_pos = between (two ⊗ one) (two ⊗ t) y two-positive y-pos (mul_mono binary64 two two one t tt tt tt p (le-self two tt) lo) x-le-y in
    (x_pos, le_trans_positive (two ⊗ t) y (power2 (suc j)) x_pos y-pos tt x-le-y (double-le j room))

-- for any q at all
grow : (k : ℕ) (q t : Float) → k < 1006 → Bounded k t → Bounded (k + 1) (maximum_of t (minimum_of q (two ⊗ t)))
grow k q t h b =
    let p = bounded-positive k t b in
    let x = two ⊗ t in
    let m = minimum_of q x in
    let d = twice (17 + k) t (omega arith) p b.at_least b.at_most in
    let m-le = minimum-le q x d.0 in
    elim (maximum-cases t m p) [
      | inl e ↦ subst (Bounded (k + 1)) (sym e) (later k (k + 1) t (omega arith) b)
      | inr e ↦
          let m-pos = between t m x p d.0 e.1 m-le in
          let i : suc (17 + k) ≡ 17 + (k + 1) = omega arith in
          subst (Bounded (k + 1)) (sym e.0) (record {
            at_least = le_trans_positive one t m tt p m-pos b.at_least e.1;
            at_most = subst (λ (i : ℕ). T (le m (power2 i))) i (le_trans_positive m x (power2 (suc (17 + k))) m-pos d.0 tt m-le d.1);
          })
    ]

pub next-bounded : (p k : ℕ) (s gap t : Float) → k < 1006 → Bounded k t → Bounded (k + 1) (next_t p s gap t)
unfolding next_t of_bits
next-bounded p k s gap t h b = go (le half s)
  where
    q : Float
    q = two ⊗ whole p ⊗ two ⊘ gap

    go : (long : Bool) → Bounded (k + 1) (cond long (maximum_of t (minimum_of q (two ⊗ t))) t)
    go true = grow k q t h b
    go false = later k (k + 1) t (omega arith) b

-- ---- the start: 2p / 0.001 is from 1 to 2 ^ 17, by one computed test
most : ℕ → Float
unfolding div mul of_int of_bits
most p = two ⊗ whole p ⊘ eta

good : ℕ → Bool
unfolding most le
good p = le one (most p) && le (most p) (power2 17)

upto : ℕ → Bool
upto zero = true
upto (suc n) = good (suc n) && upto n

upto-at : (n p : ℕ) → T (upto n) → 0 < p → p ≤ n → T (good p)
unfolding upto
upto-at zero p t P h = absurd (lt_irrefl 0 (lt_of_lt_of_le P h))
upto-at (suc n) p t P h = elim (eq-or-lt_of_le h) [
  | inl e ↦ subst (λ (x : ℕ). T (good x)) (sym e) (and_l (good (suc n)) (upto n) t)
  | inr l ↦ upto-at n p (and_r (good (suc n)) (upto n) t) P (le_of_suc-le-suc l)
]

tested : T (upto 64)
unfolding upto good
tested = tt

in-range : (p : ℕ) → 0 < p → p ≤ 64 → T (le one (most p)) × T (le (most p) (power2 17))
unfolding good
in-range p P h =
    let g = upto-at 64 p tested P h in
    (and_l (le one (most p)) (le (most p) (power2 17)) g, and_r (le one (most p)) (le (most p) (power2 17)) g)

one-le : (z : Float) → T (le one (maximum_of one z))
one-le z = elim (maximum-cases one z tt) [
  | inl e ↦ subst (λ (x : Float). T (le one x)) (sym e) (le-self one tt)
  | inr e ↦ subst (λ (x : Float). T (le one x)) (sym e.0) e.1
]

-- for any quotient at all
clamped : (c z : Float) → T (le one c) → T (le c (power2 17)) → Bounded 0 (minimum_of (maximum_of one z) c)
clamped c z lo hi =
    let c_pos = between one c (power2 17) tt tt lo hi in
    let a = maximum_of one z in
    let a-le = one-le z in
    elim (minimum-cases a c c_pos) [
      | inl e ↦ subst (Bounded 0) (sym e) (record { at_least = lo; at_most = hi })
      | inr e ↦
          let a-pos = between one a c tt c_pos a-le e.1 in
          subst (Bounded 0) (sym e.0) (record { at_least = a-le; at_most = le_trans_positive a c (power2 17) a-pos c_pos tt e.1 hi })
    ]

pub start-bounded : (p : ℕ) (lambda : Float) → 0 < p → p ≤ 64 → Bounded 0 (start_t p lambda)
unfolding start_t most of_bits
start-bounded p lambda P h = let r = in-range p P h in clamped (most p) (one ⊘ lambda) r.0 r.1
