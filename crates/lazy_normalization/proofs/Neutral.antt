-- What rounding, +0 and 1 leave as it is: x less +0 is x, also for -0, and so is x times 1. Assumes nothing.
use mathlib.Core.Path.{◌≡◌, refl, sym, ap, ◌∙◌}
use mathlib.Core.Bool.{Bool, true, false, ◌&&◌, cond}
use Prim.Native.Nat.{ℕ, zero, suc, ◌+◌, ◌-◌, ◌*◌, ◌%◌, ◌^◌, ◌≤◌, ◌<◌}
use native.Mathlib.Nat.{zero-mul, sub-zero, mul-one, one-mul, add-zero, mul-pos, mul_assoc, mul_right_comm, mul-lt-mul_of_pos_right, lt_of_mul-lt-mul_right}
use native.Mathlib.Nat.{not-le_of_lt, lt_of_not-le}
use native.Mathlib.Decide.{dec_le}
use native.Mathlib.Omega.{arith}
use lib.IntN.{ℤ, pos, negsuc}
use lib.Dec.{T, ltb, leb, eqb, ltb→lt, leb→le, lit<}
use lib.Pow.{pow-add, pow_pos, pow-lt}
use borrow.Author.Tests.{le-ltb}
use lib.Ieee.{Float, nan, inf, fin, binary64, up, down, round, sum, sub, mul, fits, of_bits}
use lib.Ieee.Bits.{of_bits-to_bits}
use lib.Ieee.Exact.{HasValue, round_exact}
use lib.Ieee.Fits.{down_pos, and_l, and_r, round-fits}
use lib.Ieee.Scale.{round_same}
use Rattle.numbers.specs.Ops.{◌⊖◌, ◌⊗◌}
use Rattle.numbers.proofs.Values.{same-value}
use Rattle.numbers.specs.Constants.{one}
use Rattle.arrays.specs.Sums.{plus0}

-- in units of 2 ^ -1074 the value is m * 2 ^ j
exact : (s : Bool) (m : ℕ) (e : ℤ) (j : ℕ) → T (fits binary64 (fin s m e)) → m < 2 ^ 53 → m * up e < 2 ^ 1024 * down e
    → m * up e * 2 ^ 1074 ≡ m * 2 ^ j * down e → round binary64 s (m * up e) (down e) ≡ fin s m e
exact s m e j f small most units =
    let r = round binary64 s (m * 2 ^ j) (2 ^ 1074) in
    let fine : m * 2 ^ j < 2 ^ 1024 * 2 ^ 1074 =
    lt_of_mul-lt-mul_right (down e) (rw (← units, mul_right_comm (2 ^ 1024) (2 ^ 1074) (down e)) (mul-lt-mul_of_pos_right most (pow_pos 1074))) in
    let v : HasValue r s (m * 2 ^ j) (2 ^ 1074) = round_exact binary64 s (m * 2 ^ j) (2 ^ 1074) m j (pow_pos 1074) small fine refl in
    round_same binary64 s (m * up e) (down e) (m * 2 ^ j) (2 ^ 1074) (down_pos e) (pow_pos 1074) units
    ∙ sym (of_bits-to_bits binary64 r (round-fits binary64 s (m * 2 ^ j) (2 ^ 1074)))
    ∙ ap (of_bits binary64) (same-value r (fin s m e) s (m * 2 ^ j) v (refl, units))
    ∙ of_bits-to_bits binary64 (fin s m e) f

power : (e : ℤ) → down e ≤ 2 ^ 1074 → (j : ℕ) × (up e * 2 ^ 1074 ≡ 2 ^ j * down e)
power (pos k) h = (k + 1074, sym (pow-add 2 k 1074) ∙ sym (mul-one (2 ^ (k + 1074))))
power (negsuc k) h = elim (dec_le (suc k) 1074) [
  | yes l ↦
      let e : 1074 - suc k + suc k ≡ 1074 = omega arith in
      (1074 - suc k, one-mul (2 ^ 1074) ∙ ap (λ (i : ℕ). 2 ^ i) (sym e) ∙ pow-add 2 (1074 - suc k) (suc k))
  | no l ↦ absurd (not-le_of_lt (pow-lt (lt_of_not-le l)) h)
]

-- a value of the format, rounded
pub round-own : (s : Bool) (m : ℕ) (e : ℤ) → T (fits binary64 (fin s m e)) → round binary64 s (m * up e) (down e) ≡ fin s m e
unfolding fits
round-own s zero e f =
    exact s zero e 0 f (lit< tt) (rw zero-mul (mul-pos (pow_pos 1024) (down_pos e))) (rw (zero-mul (up e)) (sym (zero-mul (down e))))
round-own s (suc m) e f =
    let A = eqb (suc m % 2) 1 in
    let B = ltb (suc m) (2 ^ 53) in
    let C = leb (down e) (2 ^ 1074) in
    let D = ltb (suc m * up e) (2 ^ 1024 * down e) in
    let j = power e (leb→le _ _ (and_r (A && B) C (and_l (A && B && C) D f))) in
    exact s (suc m) e j.0 f (ltb→lt _ _ (and_r A B (and_l (A && B) C (and_l (A && B && C) D f)))) (ltb→lt _ _ (and_r (A && B && C) D f))
    (mul_assoc (suc m) (up e) (2 ^ 1074) ∙ ap (λ (k : ℕ). suc m * k) j.1 ∙ sym (mul_assoc (suc m) (2 ^ j.0) (down e)))

-- ---- x less +0, for a finite x a sum with -0

sum-zero : (s : Bool) (a c : ℕ) → sum binary64 s a true 0 c ≡ round binary64 s a c
unfolding sum
sum-zero true a c = ap (λ (k : ℕ). round binary64 true k c) (add-zero a)
sum-zero false a c =
    ap (λ (b : Bool). cond b (round binary64 true (0 - a) c) (round binary64 false (a - 0) c)) (le-ltb a 0 (omega arith))
    ∙ ap (λ (k : ℕ). round binary64 false k c) (sub-zero a)

less-is : (s : Bool) (m : ℕ) (e : ℤ) → fin s m e ⊖ plus0 ≡ sum binary64 s (m * up e * 1) true (0 * down e) (down e * 1)
unfolding sub of_bits
less-is s m e = refl

finite-less : (s : Bool) (m : ℕ) (e : ℤ) → T (fits binary64 (fin s m e)) → fin s m e ⊖ plus0 ≡ fin s m e
finite-less s m e f = rw (less-is s m e, mul-one (m * up e), zero-mul (down e), mul-one (down e), sum-zero s (m * up e) (down e)) (round-own s m e f)

pub less_zero : (x : Float) → T (fits binary64 x) → x ⊖ plus0 ≡ x
unfolding sub of_bits
less_zero nan f = refl
less_zero (inf s) f = refl
less_zero (fin s m e) f = finite-less s m e f

-- ---- x times 1

times-is : (s : Bool) (m : ℕ) (e : ℤ) → fin s m e ⊗ one ≡ round binary64 s (m * up e * 1) (down e * 1)
unfolding mul of_bits
times-is true m e = refl
times-is false m e = refl

finite-times : (s : Bool) (m : ℕ) (e : ℤ) → T (fits binary64 (fin s m e)) → fin s m e ⊗ one ≡ fin s m e
finite-times s m e f = rw (times-is s m e, mul-one (m * up e), mul-one (down e)) (round-own s m e f)

pub times-one : (x : Float) → T (fits binary64 x) → x ⊗ one ≡ x
unfolding mul of_bits
times-one nan f = refl
times-one (inf true) f = refl
times-one (inf false) f = refl
times-one (fin s m e) f = finite-times s m e f
