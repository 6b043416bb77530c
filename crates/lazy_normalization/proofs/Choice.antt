-- When an entry is multiplied by its column's reciprocal and when it is divided by its scale. Assumes nothing.
use mathlib.Core.Path.{◌≡◌, refl, sym}
use mathlib.Core.Bool.{Bool, true, false, cond, ◌&&◌}
use Prim.Native.Nat.{◌*◌, ◌<◌}
use native.Mathlib.Nat.{zero-mul, mul-pos}
use native.Mathlib.Omega.{arith}
use lib.Dec.{T, ltb→lt}
use borrow.Author.Tests.{ne_eqb}
use lib.Ieee.{Float, nan, inf, fin, up, down, le, lt, eq, div, of_bits}
use lib.Ieee.Bits.{is_true}
use lib.Ieee.Fits.{up_pos, and_l}
use lib.Ieee.Positive.{above, above_of_le}
use Rattle.numbers.specs.Ops.{◌⊖◌, ◌⊗◌, ◌⊘◌, f64, magnitude_of}
use Rattle.numbers.specs.Constants.{one}
use Rattle.arrays.specs.Sums.{plus0}
use Rattle.lazy_normalization.specs.Lazy.{is_normal, reciprocal_of, normalised}

-- ---- from the code's tests

-- how the code writes +infinity
pub infinity : one ⊘ plus0 ≡ f64 0x7ff0_0000_0000_0000
unfolding div of_bits
infinity = refl

pub reciprocal_is : (scale : Float) (a b : Bool) → a ≡ is_normal scale → b ≡ is_normal (one ⊘ scale) → cond (a && b) (one ⊘ scale) plus0 ≡ reciprocal_of scale
unfolding reciprocal_of
reciprocal_is scale a b p q = rw (p, q)

pub divided : (raw centre scale by : Float) → eq by plus0 ≡ true → (raw ⊖ centre) ⊘ scale ≡ normalised raw centre scale by
unfolding normalised
divided raw centre scale by e = rw e

pub multiplied : (raw centre scale by : Float) → eq by plus0 ≡ false → (raw ⊖ centre) ⊗ by ≡ normalised raw centre scale by
unfolding normalised
multiplied raw centre scale by e = rw e

-- ---- the reciprocal where scale and reciprocal are normal, and otherwise +0

reciprocal-or-division : (scale : Float) → T (is_normal scale) → T (is_normal (one ⊘ scale)) → reciprocal_of scale ≡ one ⊘ scale
reciprocal-or-division scale p q = sym (reciprocal_is scale true true (sym (is_true _ p)) (sym (is_true _ q)))

no-reciprocal : (scale : Float) → (T (is_normal scale) → T (is_normal (one ⊘ scale)) → ⊥) → reciprocal_of scale ≡ plus0
no-reciprocal scale h = go (is_normal scale) (is_normal (one ⊘ scale)) refl refl h where
  go : (a b : Bool) → a ≡ is_normal scale → b ≡ is_normal (one ⊘ scale) → (T a → T b → ⊥) → reciprocal_of scale ≡ plus0
  go true true p q h = absurd (h tt tt)
  go true false p q h = sym (reciprocal_is scale true false p q)
  go false b p q h = sym (reciprocal_is scale false b p q)

-- ---- a normal number is no zero, so that only a +0 put there for division divides

above_zero : (x : Float) → T (above (magnitude_of x)) → eq x plus0 ≡ false
unfolding eq magnitude_of of_bits
above_zero nan h = refl
above_zero (inf s) h = refl
above_zero (fin s m e) h =
    let some : 0 < m * up e = mul-pos (ltb→lt 0 m h) (up_pos e) in
    rw (ne_eqb (m * up e * 1) (0 * down e) (λ z. omega (arith, zero-mul (down e))))

normal-not-zero : (x : Float) → T (is_normal x) → eq x plus0 ≡ false
unfolding is_normal of_bits
normal-not-zero x n =
    let least = f64 0x0010_0000_0000_0000 in
    above_zero x (above_of_le least (magnitude_of x) tt (and_l (le least (magnitude_of x)) (lt (magnitude_of x) (f64 0x7ff0_0000_0000_0000)) n))

pub times-reciprocal : (raw centre scale : Float) → T (is_normal scale) → T (is_normal (one ⊘ scale))
    → normalised raw centre scale (reciprocal_of scale) ≡ (raw ⊖ centre) ⊗ (one ⊘ scale)
unfolding normalised
times-reciprocal raw centre scale p q = rw (reciprocal-or-division scale p q, normal-not-zero (one ⊘ scale) q)

pub by-division : (raw centre scale : Float) → (T (is_normal scale) → T (is_normal (one ⊘ scale)) → ⊥)
    → normalised raw centre scale (reciprocal_of scale) ≡ (raw ⊖ centre) ⊘ scale
unfolding normalised eq of_bits
by-division raw centre scale h = rw (no-reciprocal scale h)
