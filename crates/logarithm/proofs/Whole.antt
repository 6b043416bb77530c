-- A difference of two counts as a whole number: its float, where it is zero, and that it depends only on how far apart they are. Assumes nothing.
use mathlib.Core.Path.{◌≡◌, refl, sym, ap, ◌∙◌}
use Prim.Native.Nat.{ℕ, zero, suc, ◌+◌, ◌-◌, ◌*◌, ◌^◌, ◌≤◌, ◌<◌}
use native.Mathlib.Omega.{arith}
use mathlib.Core.Bool.{Bool, true, false, cond}
use lib.Dec.{leb, ltb}
use lib.IntN.{pos, negsuc}
use lib.Ieee.{Format, prec, emax, low, odd, units, round, neg, inf, of_int, minus}
use borrow.Author.Tests.{le-leb, lt-leb, leb-true, leb-false, eq-eqb, ne_eqb}
use Rattle.logarithm.specs.Log.{is_zero}

-- ---- `round true` is `round false` with a minus sign
odd-flip : (d q k l : ℕ) → odd d true q k l ≡ neg (odd d false q k l)
unfolding odd neg
odd-flip d zero k l = refl
odd-flip d (suc q) k l = refl

units-flip : (f : Format) (q k : ℕ) → units f true q k ≡ neg (units f false q k)
unfolding units
units-flip f q k = go (ltb (q * 2 ^ k) (2 ^ (low f + suc (emax f))))
  where
    go : (b : Bool) → cond b (odd (suc (prec f)) true q k (low f)) (inf true) ≡ neg (cond b (odd (suc (prec f)) false q k (low f)) (inf false))
    go true = odd-flip (suc (prec f)) q k (low f)
    go false = unfold neg in refl

round-flip : (f : Format) (a c : ℕ) → round f true a c ≡ neg (round f false a c)
unfolding round
round-flip f a c = units-flip f _ _

-- ---- a - b
minus-up : (a b : ℕ) → b ≤ a → minus a b ≡ pos (a - b)
minus-up a b h = ap (λ (t : Bool). cond t (pos (a - b)) (negsuc (b - suc a))) (le-leb b a h)

minus-down : (a b : ℕ) → a < b → minus a b ≡ negsuc (b - suc a)
minus-down a b h = ap (λ (t : Bool). cond t (pos (a - b)) (negsuc (b - suc a))) (lt-leb b a h)

pub minus-same : (a b c d : ℕ) → a + d ≡ c + b → minus a b ≡ minus c d
minus-same a b c d e = go (leb b a) refl
  where
    go : (t : Bool) → leb b a ≡ t → minus a b ≡ minus c d
    go true l =
        let h = leb-true b a l in
        let k : a - b ≡ c - d = omega arith in
        minus-up a b h ∙ ap pos k ∙ sym (minus-up c d (omega arith))
    go false l =
        let h = leb-false b a l in
        let k : b - suc a ≡ d - suc c = omega arith in
        minus-down a b h ∙ ap negsuc k ∙ sym (minus-down c d (omega arith))

-- its float, by the magnitude's
pub float_up : (f : Format) (a b : ℕ) → b ≤ a → of_int f (pos (a - b)) ≡ of_int f (minus a b)
float_up f a b h = ap (of_int f) (sym (minus-up a b h))

pub float-down : (f : Format) (a b : ℕ) → a < b → neg (of_int f (pos (b - a))) ≡ of_int f (minus a b)
unfolding of_int
float-down f a b h =
    let k : b - a ≡ suc (b - suc a) = omega arith in
    sym (round-flip f (b - a) 1) ∙ ap (λ (n : ℕ). round f true n 1) k ∙ ap (of_int f) (sym (minus-down a b h))

-- where it is zero
pub zero-at : (a b : ℕ) → a ≡ b → is_zero (minus a b) ≡ true
zero-at a b e = ap is_zero (minus-up a b (omega arith)) ∙ eq-eqb (a - b) 0 (omega arith)

pub zero-off : (a b : ℕ) → (a ≡ b → ⊥) → is_zero (minus a b) ≡ false
zero-off a b n = go (leb b a) refl
  where
    go : (t : Bool) → leb b a ≡ t → is_zero (minus a b) ≡ false
    go true l =
        let h = leb-true b a l in
        ap is_zero (minus-up a b h) ∙ ne_eqb (a - b) 0 (λ z. n (omega arith))
    go false l = ap is_zero (minus-down a b (leb-false b a l))
