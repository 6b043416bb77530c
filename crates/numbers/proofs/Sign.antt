-- The sign of a rounded result and of a bit pattern, and what a difference below zero says of its operands. Assumes nothing.
use mathlib.Core.Path.{◌≡◌, refl, sym, subst}
use Prim.Native.Nat.{ℕ, zero, suc, ◌+◌, ◌-◌, ◌*◌, ◌/◌, ◌%◌, ◌^◌, ◌<◌}
use native.Mathlib.Nat.{lt_irrefl, lt_of_lt_of_le, le_of_eq, zero-mul, mul-one, add-zero, mul-pos, add_comm}
use native.Mathlib.Omega.{arith}
use mathlib.Core.Bool.{Bool, true, false, not, cond}
use lib.Dec.{T, leb, ltb, eqb, ltb→lt, lt→ltb}
use lib.Pow.{pow_pos}
use lib.Ieee.{Float, nan, inf, fin, Format, prec, emax, low, hid, ones, top, up, down, odd, units, round}
use lib.Ieee.{sum, neg, sub, lt, below, fits, is_nan, of_fields, of_bits, to_bits}
use lib.Ieee.Bits.{of_bits-to_bits}
use lib.Ieee.Fits.{up_pos, down_pos}
use lib.Ieee.Exact.{HasValue, round_exact}
use lib.Ieee.Positive.{first_pos, positive}
use lib.Ieee.Scale.{finite}
use Rattle.numbers.specs.Kinds.{number, negative, under, under_or_nan, high, unsigned, pzero}

-- ---- a rounded value has the sign that it was given
odd-negative : (d : ℕ) (s : Bool) (q k l : ℕ) → negative (odd d s q k l) ≡ s
unfolding odd
odd-negative d s zero k l = refl
odd-negative d s (suc q) k l = refl

units-negative : (f : Format) (s : Bool) (q k : ℕ) → negative (units f s q k) ≡ s
unfolding units
units-negative f s q k = go (ltb (q * 2 ^ k) (2 ^ (low f + suc (emax f))))
  where
    go : (b : Bool) → negative (cond b (odd (suc (prec f)) s q k (low f)) (inf s)) ≡ s
    go true = odd-negative (suc (prec f)) s q k (low f)
    go false = refl

round-negative : (f : Format) (s : Bool) (a c : ℕ) → negative (round f s a c) ≡ s
unfolding round
round-negative f s a c = units-negative f s _ _

under-negative : (x : Float) → T (under x) → T (negative x)
under-negative nan h = h
under-negative (inf s) h = h
under-negative (fin true m e) h = tt
under-negative (fin false m e) h = h

round-sign : (f : Format) (s : Bool) (a c : ℕ) → T (under (round f s a c)) → T s
round-sign f s a c h = subst T (round-negative f s a c) (under-negative (round f s a c) h)

-- ---- the highest bit of a pattern is the sign
fields-negative : (f : Format) (s : Bool) (x t : ℕ) → T (not (is_nan (of_fields f s x t))) → negative (of_fields f s x t) ≡ s
unfolding of_fields is_nan
fields-negative f s zero t h = odd-negative (prec f) s t 0 (low f)
fields-negative f s (suc x) t h = go (eqb (suc x) (ones f)) (eqb t 0) h
  where
    go : (a b : Bool) → T (not (is_nan (cond a (cond b (inf s) nan) (odd (prec f) s (hid f + t) x (low f)))))
        → negative (cond a (cond b (inf s) nan) (odd (prec f) s (hid f + t) x (low f))) ≡ s
    go true true k = refl
    go true false k = absurd k
    go false b k = odd-negative (prec f) s (hid f + t) x (low f)

pub to_bits-sign : (f : Format) (x : Float) → T (fits f x) → T (not (is_nan x)) → leb (top f) (to_bits f x) ≡ negative x
unfolding of_bits
to_bits-sign f x p h =
    let b = to_bits f x in
    let sign = fields-negative f (leb (top f) b) (b % top f / hid f) (b % hid f) in
    sym (subst (λ (v : Float). T (not (is_nan v)) → negative v ≡ leb (top f) b) (of_bits-to_bits f x p) sign h)

-- ---- zero rounds to zero
value-zero : (x : Float) (s : Bool) (c : ℕ) → 0 < c → HasValue x s 0 c → T (under x) → ⊥
value-zero nan s c C v h = h
value-zero (inf t) s c C v h = v
value-zero (fin false m e) s c C v h = h
value-zero (fin true m e) s c C v h = lt_irrefl 0 (lt_of_lt_of_le (mul-pos (mul-pos (ltb→lt 0 m h) (up_pos e)) C) (le_of_eq (simp zero-mul at v.1)))

round-nonzero : (f : Format) (s : Bool) (a c : ℕ) → 0 < c → T (under (round f s a c)) → 0 < a
round-nonzero f s zero c C h =
    absurd (value-zero (round f s 0 c) s c C (round_exact f s 0 c 0 0 C (pow_pos (prec f)) (pow_pos (low f + suc (emax f))) (simp zero-mul)) h)
round-nonzero f s (suc a) c C h = omega arith

-- ---- a computed difference below zero: the first is below the second, exactly
sum-under : (f : Format) (s : Bool) (a : ℕ) (t : Bool) (b c : ℕ) → 0 < c → T (under (sum f s a (not t) b c)) → T (below s a t b)
unfolding sum
sum-under f false a false b c C h = go (ltb a b) h
  where
    go : (x : Bool) → T (under (cond x (round f true (b - a) c) (round f false (a - b) c))) → T x
    go true k = tt
    go false k = round-sign f false (a - b) c k
sum-under f false a true b c C h = round-sign f false (a + b) c h
sum-under f true a false b c C h = lt→ltb 0 (a + b) (round-nonzero f true (a + b) c C h)
sum-under f true a true b c C h = go (ltb a b) (ltb b a) h
  where
    go : (x y : Bool) → T (under (cond x (round f false (b - a) c) (round f y (a - b) c))) → T y
    go true y k = absurd (round-sign f false (b - a) c k)
    go false y k = round-sign f y (a - b) c k

pub sub-under : (f : Format) (x y : Float) → T (under (sub f x y)) → T (lt x y)
unfolding sub lt
sub-under f nan y h = h
sub-under f (inf s) nan h = h
sub-under f (inf true) (inf true) h = absurd h
sub-under f (inf true) (inf false) h = tt
sub-under f (inf false) (inf true) h = absurd h
sub-under f (inf false) (inf false) h = absurd h
sub-under f (inf s) (fin t n d) h = h
sub-under f (fin s m e) nan h = h
sub-under f (fin s m e) (inf t) h = h
sub-under f (fin s m e) (fin t n d) h = sum-under f s (m * up e * down d) t (n * up d * down e) (down e * down d) (mul-pos (down_pos e) (down_pos d)) h

-- ---- below +0 is below zero
pub lt-zero : (x : Float) → T (lt x pzero) → T (under x)
unfolding lt
lt-zero nan h = h
lt-zero (inf s) h = h
lt-zero (fin false m e) h = absurd (lt_irrefl 0 (lt_of_lt_of_le (go (ltb→lt (m * up e * 1) (0 * down e) h)) (le_of_eq (zero-mul (down e)))))
  where
    go : {a b : ℕ} → a < b → 0 < b
    go k = omega arith
lt-zero (fin true m e) h = lt→ltb 0 m (first_pos m (up e) (simp (zero-mul, mul-one, add-zero) at (ltb→lt 0 (m * up e * 1 + 0 * down e) h)))

-- ---- -x < y is -y < x
pub lt-neg : (x y : Float) → T (lt (neg x) y) → T (lt (neg y) x)
unfolding lt neg
lt-neg nan y h = absurd h
lt-neg (inf s) nan h = absurd h
lt-neg (inf true) (inf t) h = absurd h
lt-neg (inf false) (inf true) h = absurd h
lt-neg (inf false) (inf false) h = tt
lt-neg (inf s) (fin t n d) h = h
lt-neg (fin s m e) nan h = absurd h
lt-neg (fin s m e) (inf t) h = h
lt-neg (fin false m e) (fin false n d) h = rw (add_comm (m * up e * down d) (n * up d * down e)) at h
lt-neg (fin false m e) (fin true n d) h = h
lt-neg (fin true m e) (fin false n d) h = h
lt-neg (fin true m e) (fin true n d) h = absurd h

-- ---- what has a number below it is finite, unless it is +infinity; and so is what lies between it and its negation
pub above-finite : (x y : Float) → T (lt x y) → (T (high y) → ⊥) → T (finite y)
unfolding lt
above-finite x nan h k = k tt
above-finite x (inf false) h k = k tt
above-finite nan (inf true) h k = h
above-finite (inf true) (inf true) h k = h
above-finite (inf false) (inf true) h k = h
above-finite (fin s m e) (inf true) h k = h
above-finite x (fin t n d) h k = tt

pub between-finite : (x y : Float) → T (finite y) → T (lt x y) → T (lt (neg x) y) → T (finite x)
unfolding lt neg
between-finite x nan q h k = absurd q
between-finite x (inf t) q h k = absurd q
between-finite nan (fin t n d) q h k = h
between-finite (inf true) (fin t n d) q h k = k
between-finite (inf false) (fin t n d) q h k = h
between-finite (fin s m e) (fin t n d) q h k = tt

pub positive-unsigned : (x : Float) → T (positive x) → T (unsigned x)
positive-unsigned nan h = tt
positive-unsigned (inf s) h = absurd h
positive-unsigned (fin true m e) h = h
positive-unsigned (fin false m e) h = tt

-- ---- below zero, with a NaN let in and without
pub under-weaker : (x : Float) → T (under x) → T (under_or_nan x)
under-weaker nan h = tt
under-weaker (inf s) h = h
under-weaker (fin s m e) h = h

pub number-under : (x : Float) → T (number x) → T (under_or_nan x) → T (under x)
number-under nan n h = n
number-under (inf s) n h = h
number-under (fin s m e) n h = h
