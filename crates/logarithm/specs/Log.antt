-- The natural logarithm, step for step that of fdlibm's e_log.c. Definitions only.
use Rattle.std.specs.Prelude.{ℕ, ◌+◌, ◌-◌, ◌*◌, ◌/◌, ◌%◌, ◌^◌, Bool, false, cond, ◌&&◌, leb, ltb, eqb, ℤ, pos, negsuc, Float}
use Rattle.std.specs.Float.{binary64}
use Rattle.std.specs.Float.Ieee.{to_bits, of_int, minus, neg, eq}
use Rattle.numbers.specs.Ops.{◌⊕◌, ◌⊖◌, ◌⊗◌, ◌⊘◌, f64}
use Rattle.numbers.specs.Constants.{half, one, two}

-- ---- the file's constants
abbrev pub ln2hi : Float
ln2hi = f64 0x3fe62e42fee00000

abbrev pub ln2lo : Float
ln2lo = f64 0x3dea39ef35793c76

abbrev pub lg1 : Float
lg1 = f64 0x3fe5555555555593

abbrev pub lg2 : Float
lg2 = f64 0x3fd999999997fa04

abbrev pub lg3 : Float
lg3 = f64 0x3fd2492494229359

abbrev pub lg4 : Float
lg4 = f64 0x3fcc71c51d8e78af

abbrev pub lg5 : Float
lg5 = f64 0x3fc7466496cb03de

abbrev pub lg6 : Float
lg6 = f64 0x3fc39a09d078c69f

abbrev pub lg7 : Float
lg7 = f64 0x3fc2f112df3e5244

abbrev pub zero : Float
zero = f64 0

-- 0.33333333333333333
abbrev pub third : Float
third = f64 0x3fd5555555555555

abbrev pub two54 : Float
two54 = f64 0x4350000000000000

-- ---- its steps, with k a whole number and dk that number as a float
abbrev pub is_zero : ℤ → Bool
is_zero (pos n) = eqb n 0
is_zero (negsuc n) = false

-- |f| < 2 ^ -20
unfoldable pub close_of : Float → ℤ → Float
close_of f k =
    let dk = of_int binary64 k in
    let r = f ⊗ f ⊗ (half ⊖ third ⊗ f) in
    cond (eq f zero) (cond (is_zero k) zero (dk ⊗ ln2hi ⊕ dk ⊗ ln2lo))
    (cond (is_zero k) (f ⊖ r) (dk ⊗ ln2hi ⊖ ((r ⊖ dk ⊗ ln2lo) ⊖ f)))

-- R, of s
unfoldable pub series_of : Float → Float
series_of s =
    let z = s ⊗ s in
    let w = z ⊗ z in
    let t1 = w ⊗ (lg2 ⊕ w ⊗ (lg4 ⊕ w ⊗ lg6)) in
    let t2 = z ⊗ (lg1 ⊕ w ⊗ (lg3 ⊕ w ⊗ (lg5 ⊕ w ⊗ lg7))) in
    t2 ⊕ t1

-- where i | j > 0
unfoldable pub mid_of : Float → ℤ → Float → Float → Float
mid_of f k s r =
    let dk = of_int binary64 k in
    let hfsq = half ⊗ f ⊗ f in
    cond (is_zero k) (f ⊖ (hfsq ⊖ s ⊗ (hfsq ⊕ r))) (dk ⊗ ln2hi ⊖ ((hfsq ⊖ (s ⊗ (hfsq ⊕ r) ⊕ dk ⊗ ln2lo)) ⊖ f))

-- elsewhere
unfoldable pub out_of : Float → ℤ → Float → Float → Float
out_of f k s r =
    let dk = of_int binary64 k in
    cond (is_zero k) (f ⊖ s ⊗ (f ⊖ r)) (dk ⊗ ln2hi ⊖ ((s ⊗ (f ⊖ r) ⊖ dk ⊗ ln2lo) ⊖ f))

-- i | j > 0 there is 0x6147a <= hx <= 0x6b851
unfoldable pub far_of : Float → ℤ → ℕ → Float
far_of f k hx =
    let s = f ⊘ (two ⊕ f) in
    cond (leb 0x6147a hx && leb hx 0x6b851) (mid_of f k s (series_of s)) (out_of f k s (series_of s))

-- From `k += (hx >> 20) - 1023` on: b is the pattern of a normal x, which has been scaled by 2 ^ scaled. i is 0 or 1, and `normalize x or x/2` is
-- the pattern that f is taken from.
unfoldable pub normal_ln : ℕ → ℕ → Float
normal_ln scaled b =
    let hx = b / 2 ^ 32 % 2 ^ 20 in
    let i = (hx + 0x95f64) / 2 ^ 20 in
    let k = minus (b / 2 ^ 52 + i) (1023 + scaled) in
    let f = f64 ((0x3ff - i) * 2 ^ 52 + b % 2 ^ 52) ⊖ one in
    cond (ltb ((hx + 2) % 2 ^ 20) 3) (close_of f k) (far_of f k hx)

-- the file's cases: a zero, a minus sign, a subnormal (times 2 ^ 54), +infinity and a NaN, and every other value
unfoldable pub ln_of : Float → Float
ln_of x =
    let b = to_bits binary64 x in
    cond (eqb (b % 2 ^ 63) 0) (neg two54 ⊘ zero)
    (cond (leb (2 ^ 63) b) ((x ⊖ x) ⊘ zero)
    (cond (ltb b (2 ^ 52)) (normal_ln 54 (to_bits binary64 (x ⊗ two54)))
    (cond (leb 0x7ff0_0000_0000_0000 b) (x ⊕ x) (normal_ln 0 b))))
