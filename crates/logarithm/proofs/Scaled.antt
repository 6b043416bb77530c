-- A subnormal scaled by its leading zeros, as the code has it, and by 2 ^ 54, as the definition has it, come to the same logarithm. Assumes nothing.
use mathlib.Core.Path.{◌≡◌, refl, sym, ap, ◌∙◌, subst}
use Prim.Native.Nat.{ℕ, suc, ◌+◌, ◌-◌, ◌*◌, ◌/◌, ◌%◌, ◌^◌, ◌≤◌, ◌<◌}
use native.Mathlib.Nat.{pow-suc, mul_assoc, mul-le-mul, lt_of_lt_of_le, lt_of_not-le}
use native.Mathlib.Omega.{arith}
use mathlib.Core.Bool.{Bool, true, false, cond}
use lib.Dec.{ltb, lit<, lit≤}
use lib.Pow.{pow_pos, pow_mono, shl_lt}
use lib.IntN.{ℤ}
use lib.Ieee.{Float, binary64, of_bits, to_bits, minus}
use lib.Ieee.Exact.{HasValue, round_exact}
use lib.Ieee.Positive.{mul_at, positive_of_value}
use borrow.Author.Tests.{lt-leb, ltb-true, ltb-false, ne_eqb}
use Rattle.numbers.specs.Ops.{◌⊖◌, ◌⊗◌, f64}
use Rattle.numbers.specs.Units.{count, IsNormal}
use Rattle.logarithm.specs.Log.{two54, close_of, far_of, normal_ln, ln_of}
use Rattle.numbers.proofs.Counts.{count_low, count_at}
use Rattle.numbers.proofs.Normals.{high-normal, normal-unique}
use Rattle.numbers.proofs.Values.{value-of-bits, bits_back, same-value}
use Rattle.numbers.specs.Constants.{one}
use Rattle.logarithm.proofs.Whole.{minus-same}

-- ---- `normal_ln` by the digits below the leading one, and by k

-- whether x / 2 is taken
abbrev pub halved : ℕ → ℕ
halved low = (low / 2 ^ 32 + 0x95f64) / 2 ^ 20

unfoldable pub ln_at : ℕ → ℤ → Float
ln_at low k =
    let hx = low / 2 ^ 32 in
    let f = f64 ((0x3ff - halved low) * 2 ^ 52 + low) ⊖ one in
    cond (ltb ((hx + 2) % 2 ^ 20) 3) (close_of f k) (far_of f k hx)

-- field - (1023 + scaled), and 1 more where x / 2 is taken
abbrev k_of : ℕ → ℕ → ℕ → ℤ
k_of scaled field low = minus (field + halved low) (1023 + scaled)

normal-ln-is : (scaled b : ℕ) → normal_ln scaled b ≡ ln_at (b % 2 ^ 52) (k_of scaled (b / 2 ^ 52) (b % 2 ^ 52))
unfolding normal_ln ln_at
normal-ln-is scaled b = rw (same b)
  where
    same : (b : ℕ) → b / 2 ^ 32 % 2 ^ 20 ≡ b % 2 ^ 52 / 2 ^ 32
    same b = omega arith

normal-ln-at : (scaled field low : ℕ) → low < 2 ^ 52 → normal_ln scaled (field * 2 ^ 52 + low) ≡ ln_at low (k_of scaled field low)
normal-ln-at scaled field low h =
    let b = field * 2 ^ 52 + low in
    let x : b / 2 ^ 52 ≡ field = omega arith in
    let y : b % 2 ^ 52 ≡ low = omega arith in
    normal-ln-is scaled b ∙ ap (λ (l : ℕ). ln_at l (k_of scaled (b / 2 ^ 52) l)) y ∙ ap (λ (e : ℕ). ln_at low (k_of scaled e low)) x

-- as the code has it: the field is 2 above the power, and 1075 is 2 below 1023 + 54
pub ln-at-power : (p low : ℕ) → low < 2 ^ 52 → ln_at low (minus (p + halved low) 1075) ≡ normal_ln 54 ((p + 2) * 2 ^ 52 + low)
ln-at-power p low h = ap (ln_at low) (minus-same (p + halved low) 1075 (p + 2 + halved low) 1077 (omega arith)) ∙ sym (normal-ln-at 54 (p + 2) low h)

-- ---- a scale of 2 ^ 54 is 54 more in the field
pub scale-of-54 : (b : ℕ) → normal_ln 0 b ≡ normal_ln 54 (b + 54 * 2 ^ 52)
scale-of-54 b =
    let low = b % 2 ^ 52 in
    let e : (b / 2 ^ 52 + 54) * 2 ^ 52 + low ≡ b + 54 * 2 ^ 52 = omega arith in
    normal-ln-is 0 b
    ∙ ap (ln_at low) (minus-same (b / 2 ^ 52 + halved low) 1023 (b / 2 ^ 52 + 54 + halved low) 1077 (omega arith))
    ∙ sym (normal-ln-at 54 (b / 2 ^ 52 + 54) low (omega arith))
    ∙ ap (normal_ln 54) e

-- ---- a subnormal times 2 ^ 54: the product is exact, and has the power and the digits that the leading zeros give
two54-value : HasValue two54 false (2 ^ 54) 1
unfolding of_bits
two54-value = (refl, refl)

times-value : (b : ℕ) → 0 < b → b < 2 ^ 52 → HasValue (f64 b ⊗ two54) false (b * 2 ^ 54) (2 ^ 1074)
times-value b p h =
    let v = subst (λ (n : ℕ). HasValue (f64 b) false n (2 ^ 1074)) (count_low b (omega arith)) (value-of-bits b (omega arith)) in
    let w = two54-value in
    let x = positive_of_value (f64 b) b (2 ^ 1074) v p in
    let y = positive_of_value two54 (2 ^ 54) 1 w (lit< tt) in
    subst (λ (z : Float). HasValue z false (b * 2 ^ 54) (2 ^ 1074))
    (sym (mul_at binary64 (f64 b) two54 b (2 ^ 1074) (2 ^ 54) 1 x y (pow_pos 1074) (lit< tt) v w))
    (round_exact binary64 false (b * 2 ^ 54) (2 ^ 1074) b 54 (pow_pos 1074) (omega arith) (lt_of_lt_of_le (shl_lt 52 54 h) (lit≤ tt)) refl)

small_same : (b p d : ℕ) → b < 2 ^ 52 → IsNormal b p d → d * 2 ^ p ≡ b * 2 ^ 53
small_same b p d h N = N.same ∙ ap (λ (n : ℕ). n * 2 ^ 53) (count_low b (omega arith))

few : (b p d : ℕ) → b < 2 ^ 52 → IsNormal b p d → p < 53
few b p d h N =
    lt_of_not-le (λ (g : 53 ≤ p). let l : 2 ^ 52 * 2 ^ 53 ≤ d * 2 ^ p = mul-le-mul N.long (pow_mono g) in omega (arith, small_same b p d h N))

raised-count : (b p d : ℕ) → b < 2 ^ 52 → IsNormal b p d → count ((p + 2) * 2 ^ 52 + (d - 2 ^ 52)) ≡ b * 2 ^ 54
raised-count b p d h N =
    let e : (p + 2) * 2 ^ 52 + (d - 2 ^ 52) ≡ suc p * 2 ^ 52 + d = omega arith in
    ap count e
    ∙ count_at (suc p) d N.long (omega arith)
    ∙ ap (λ (k : ℕ). d * k) (pow-suc 2 p)
    ∙ sym (mul_assoc d (2 ^ p) 2)
    ∙ omega (arith, small_same b p d h N)

pub scaled-bits : (b p d : ℕ) → 0 < b → b < 2 ^ 52 → IsNormal b p d → to_bits binary64 (f64 b ⊗ two54) ≡ (p + 2) * 2 ^ 52 + (d - 2 ^ 52)
scaled-bits b p d q h N =
    let n = (p + 2) * 2 ^ 52 + (d - 2 ^ 52) in
    let fine : n < 0x7ff0000000000000 = omega (arith, few b p d h N) in
    let v = subst (λ (k : ℕ). HasValue (f64 n) false k (2 ^ 1074)) (raised-count b p d h N) (value-of-bits n fine) in
    same-value (f64 b ⊗ two54) (f64 n) false (b * 2 ^ 54) (times-value b q h) v ∙ bits_back n fine

-- ---- any other pattern has its power and its digits in its fields
high_bits : (b p d : ℕ) → 2 ^ 52 ≤ b → b < 0x7ff0000000000000 → IsNormal b p d → b + 54 * 2 ^ 52 ≡ (p + 2) * 2 ^ 52 + (d - 2 ^ 52)
high_bits b p d l h N =
    let M = high-normal b h (λ z. omega arith) in
    let u = normal-unique p d (b / 2 ^ 52 + 52) (b % 2 ^ 52 + 2 ^ 52) N.long N.short M.long M.short (N.same ∙ sym M.same) in
    omega (arith, u.0, u.1)

-- ---- the two ways agree
ln-finite : (b : ℕ) → 0 < b → b < 0x7ff0000000000000 → ln_of (f64 b) ≡ cond (ltb b (2 ^ 52)) (normal_ln 54 (to_bits binary64 (f64 b ⊗ two54))) (normal_ln 0 b)
unfolding ln_of
ln-finite b q h =
    simp (bits_back b h, ne_eqb (b % 2 ^ 63) 0 (λ z. omega arith), lt-leb (2 ^ 63) b (omega arith), lt-leb 0x7ff0000000000000 b h)

pub leading-zeros-agree : (b power digits : ℕ) → 0 < b → b < 0x7ff0000000000000 → IsNormal b power digits
    → ln_of (of_bits binary64 b) ≡ normal_ln 54 ((power + 2) * 2 ^ 52 + (digits - 2 ^ 52))
leading-zeros-agree b p d q h N = ln-finite b q h ∙ go (ltb b (2 ^ 52)) refl
  where
    go : (t : Bool) → ltb b (2 ^ 52) ≡ t
        → cond t (normal_ln 54 (to_bits binary64 (f64 b ⊗ two54))) (normal_ln 0 b) ≡ normal_ln 54 ((p + 2) * 2 ^ 52 + (d - 2 ^ 52))
    go true e = ap (normal_ln 54) (scaled-bits b p d q (ltb-true b (2 ^ 52) e) N)
    go false e = scale-of-54 b ∙ ap (normal_ln 54) (high_bits b p d (ltb-false b (2 ^ 52) e) h N)
