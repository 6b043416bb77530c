-- The logarithm of a NaN, of an infinity, of zero, and of what is below zero. Assumes nothing.
use mathlib.Core.Path.{◌≡◌, refl, sym, ap, ◌∙◌, subst}
use mathlib.Core.Logic.{inl, inr}
use Prim.Native.Nat.{ℕ, ◌+◌, ◌/◌, ◌%◌, ◌^◌, ◌≤◌, ◌<◌}
use native.Mathlib.Nat.{le_refl, le_of_eq, lt_of_lt_of_le, lt_irrefl, eq-zero-or-pos, zero-mul, mul-pos, sub_self}
use native.Mathlib.Omega.{arith}
use mathlib.Core.Bool.{Bool, true, false, not, cond}
use lib.IntN.{pos}
use lib.Dec.{T, eqb, lit≤}
use lib.Pow.{pow_pos}
use lib.Ieee.{Float, nan, inf, fin, binary64, round, sum, add, sub, div, neg, fits, of_fields, of_bits, to_bits}
use lib.Ieee.Bits.{of_bits-to_bits, to_bits-lt}
use lib.Ieee.Fits.{up_pos, down_pos}
use lib.Ieee.Exact.{HasValue, round_exact}
use borrow.Author.Tests.{le-ltb, le-leb, lt-leb, ne_eqb, eq-eqb}
use Rattle.numbers.specs.Ops.{◌⊕◌, ◌⊖◌, ◌⊘◌, f64}
use Rattle.numbers.specs.Kinds.{under, nzero}
use Rattle.logarithm.specs.Log.{zero, ln_of}
use Rattle.numbers.proofs.Values.{bits-fields}

-- ---- (x - x) / 0 is a NaN, whatever x is
zero_by_zero : (x : Float) (s : Bool) (c : ℕ) → 0 < c → HasValue x s 0 c → x ⊘ zero ≡ nan
unfolding div of_bits
zero_by_zero nan s c C h = refl
zero_by_zero (inf t) s c C h = absurd h
zero_by_zero (fin t m e) s c C h = simp (eq-eqb m 0 none)
  where
    none : m ≡ 0
    none = elim (eq-zero-or-pos m) [
      | inl z ↦ z
      | inr p ↦ absurd (lt_irrefl 0 (lt_of_lt_of_le (mul-pos (mul-pos p (up_pos e)) C) (le_of_eq (h.1 ∙ zero-mul _))))
    ]

gone : (s : Bool) (c : ℕ) → 0 < c → round binary64 s 0 c ⊘ zero ≡ nan
gone s c C = zero_by_zero (round binary64 s 0 c) s c C (round_exact binary64 s 0 c 0 0 C (pow_pos 53) (pow_pos 2098) (simp zero-mul))

equal : (s : Bool) (a c : ℕ) → 0 < c → sum binary64 s a (not s) a c ⊘ zero ≡ nan
unfolding sum
equal true a c C = simp (le-ltb a a (le_refl a), sub_self) (gone false c C)
equal false a c C = simp (le-ltb a a (le_refl a), sub_self) (gone false c C)

self-by-zero : (x : Float) → (x ⊖ x) ⊘ zero ≡ nan
unfolding sub div
self-by-zero nan = refl
self-by-zero (inf true) = refl
self-by-zero (inf false) = refl
self-by-zero (fin s m e) = equal s _ _ (mul-pos (down_pos e) (down_pos e))

-- ---- an infinity or a NaN, by its pattern
top-is : (n : ℕ) → 0x7ff0000000000000 ≤ n → n < 2 ^ 63 → f64 n ≡ cond (eqb (n % 2 ^ 52) 0) (inf false) nan
unfolding of_fields
top-is n l h =
    let e : n / 2 ^ 52 ≡ 2047 = omega arith in
    bits-fields n h ∙ ap (λ (x : ℕ). of_fields binary64 false x (n % 2 ^ 52)) e

twice : (b : Bool) → cond b (inf false) nan ⊕ cond b (inf false) nan ≡ cond b (inf false) nan
unfolding add
twice true = refl
twice false = refl

minus-zero : f64 (2 ^ 63) ≡ nzero
unfolding of_bits
minus-zero = refl

-- ---- by what the pattern says
pub ln-of-zero-bits : (x : Float) → to_bits binary64 x % 2 ^ 63 ≡ 0 → ln_of x ≡ inf true
unfolding ln_of div neg of_bits
ln-of-zero-bits x z = simp (eq-eqb _ 0 z)

pub ln-of-signed-bits : (x : Float) → (to_bits binary64 x % 2 ^ 63 ≡ 0 → ⊥) → 2 ^ 63 ≤ to_bits binary64 x → ln_of x ≡ nan
unfolding ln_of
ln-of-signed-bits x n h = simp (ne_eqb _ 0 n, le-leb _ _ h) (self-by-zero x)

pub ln-of-top-bits : (x : Float) → T (fits binary64 x) → 0x7ff0000000000000 ≤ to_bits binary64 x → to_bits binary64 x < 2 ^ 63 → ln_of x ≡ x
unfolding ln_of
ln-of-top-bits x f l h =
    let b = to_bits binary64 x in
    simp (ne_eqb (b % 2 ^ 63) 0 (λ z. omega arith), lt-leb (2 ^ 63) b h, le-ltb b (2 ^ 52) (omega arith), le-leb 0x7ff0000000000000 b l)
    (subst (λ (y : Float). y ⊕ y ≡ y) (sym (top-is b l h) ∙ of_bits-to_bits binary64 x f) (twice (eqb (b % 2 ^ 52) 0)))

-- ---- by the value
pub ln-nan : ln_of nan ≡ nan
unfolding ln_of to_bits add
ln-nan = refl

pub ln-infinity : ln_of (inf false) ≡ inf false
unfolding ln_of to_bits add
ln-infinity = refl

pub ln-zero : (s : Bool) → ln_of (fin s 0 (pos 0)) ≡ inf true
unfolding to_bits
ln-zero true = ln-of-zero-bits (fin true 0 (pos 0)) refl
ln-zero false = ln-of-zero-bits (fin false 0 (pos 0)) refl

-- a minus sign is the highest bit
sign_bit : (x : Float) → T (under x) → 2 ^ 63 ≤ to_bits binary64 x
unfolding to_bits
sign_bit nan u = absurd u
sign_bit (inf true) u = lit≤ tt
sign_bit (inf false) u = absurd u
sign_bit (fin true m e) u = first (2 ^ 63) _ _
  where
    first : (a b c : ℕ) → a ≤ a + b + c
    first a b c = omega arith
sign_bit (fin false m e) u = absurd u

pub ln-negative : (x : Float) → T (fits binary64 x) → T (under x) → ln_of x ≡ nan
ln-negative x f u = ln-of-signed-bits x nonzero (sign_bit x u)
  where
    nonzero : to_bits binary64 x % 2 ^ 63 ≡ 0 → ⊥
    nonzero z =
        let e : to_bits binary64 x ≡ 2 ^ 63 = omega (arith, sign_bit x u, to_bits-lt binary64 x f) in
        subst (λ (y : Float). T (under y)) (sym (of_bits-to_bits binary64 x f) ∙ ap (of_bits binary64) e ∙ minus-zero) u
