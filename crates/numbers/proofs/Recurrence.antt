-- A root worked out bit by bit, over whole numbers: what a bit keeps, and what the last one leaves. Assumes nothing.
use mathlib.Core.Path.{◌≡◌, refl, sym, ap, ◌∙◌, subst}
use Prim.Native.Nat.{ℕ, ◌+◌, ◌-◌, ◌*◌, ◌/◌, ◌%◌, ◌^◌, ◌≤◌, ◌<◌}
use native.Mathlib.Nat.{mul-add, add-mul, mul_comm, mul_assoc, mul_left_comm, lt_of_lt_of_le, lt_of_not-le, mul-le-mul, pow-succ'}
use native.Mathlib.Numerals.{add-one}
use native.Mathlib.Decide.{dec_le}
use native.Mathlib.Omega.{arith}
use lib.Dec.{lit<}
use lib.Pow.{pow_mono}
use borrow.Author.Tests.{le-leb, lt-leb}
use Rattle.numbers.specs.declared.square_root.Digits.{Digits}
use Rattle.numbers.specs.Nearest.{Nearest}
use Rattle.numbers.specs.Digits.{brought_down, trial_of, bit_one, bit_zero, next_bit, Workable}

-- ---- squares
twice-sq : (r : ℕ) → r * 2 * (r * 2) ≡ 4 * (r * r)
twice-sq r = mul_assoc r 2 (r * 2) ∙ ap (λ (x : ℕ). r * x) (sym (mul_assoc 2 r 2) ∙ mul_comm (2 * r) 2 ∙ sym (mul_assoc 2 2 r)) ∙ mul_left_comm r 4 r

next-sq : (a : ℕ) → (a + 1) * (a + 1) ≡ a * a + 2 * a + 1
next-sq a = add-mul a 1 (a + 1) ∙ ap (λ (x : ℕ). x + 1 * (a + 1)) (mul-add a a 1) ∙ close (a * a)
  where
    close : (s : ℕ) → s + a * 1 + 1 * (a + 1) ≡ s + 2 * a + 1
    close s = omega arith

odd-sq : (r : ℕ) → (r * 2 + 1) * (r * 2 + 1) ≡ 4 * (r * r) + 4 * r + 1
odd-sq r = next-sq (r * 2) ∙ ap (λ (x : ℕ). x + 2 * (r * 2) + 1) (twice-sq r) ∙ close (r * r)
  where
    close : (s : ℕ) → 4 * s + 2 * (r * 2) + 1 ≡ 4 * s + 4 * r + 1
    close s = omega arith

-- ---- the bits

abbrev square : Digits → ℕ
square w = w.root * w.root

-- After i bits of the root of m * 2 ^ 54: root² + remainder is the number that the argument's first i pairs of bits make, and ahead has the others.
pub record Worked (m : ℕ) (w : Digits) (i : ℕ) : Type 0 where
  pub few : i ≤ 54
  pub sum : (square w + w.remainder) * 2 ^ 54 + w.ahead ≡ m * 4 ^ i
  pub size : w.root < 2 ^ i
  pub room : Workable w

pub start : (m : ℕ) → m < 2 ^ 54 → Worked m (record { root = 0; remainder = 0; ahead = m }) 0
start m h = record { few = omega arith; sum = omega arith; size = lit< tt; room = record { root = lit< tt; remainder = omega arith; ahead = h } }

-- whatever the bit is
bit : (m : ℕ) (w v : Digits) (i : ℕ) → Worked m w i → i < 54 → square v + v.remainder ≡ 4 * square w + brought_down w → v.remainder ≤ 2 * v.root
    → v.root ≤ w.root * 2 + 1 → v.ahead ≡ w.ahead % 2 ^ 52 * 4 → Worked m v (i + 1)
bit m w v i d l e h k a = record {
  few = omega arith;
  sum = go (square w) (square v) (m * 4 ^ i) (m * 4 ^ (i + 1)) d.sum e four;
  size = grown;
  room = record { root = lt_of_lt_of_le grown (pow_mono (last i l)); remainder = h; ahead = omega arith };
}
  where
    go : (s t n n' : ℕ) → (s + w.remainder) * 2 ^ 54 + w.ahead ≡ n → t + v.remainder ≡ 4 * s + brought_down w → n' ≡ 4 * n
        → (t + v.remainder) * 2 ^ 54 + v.ahead ≡ n'
    go s t n n' x y z = omega arith

    grow : (p q : ℕ) → q ≡ 2 * p → w.root < p → v.root < q
    grow p q x y = omega arith

    grown : v.root < 2 ^ (i + 1)
    grown = grow (2 ^ i) (2 ^ (i + 1)) (ap (λ (j : ℕ). 2 ^ j) (add-one i) ∙ pow-succ' 2 i) d.size

    last : (j : ℕ) → j < 54 → j + 1 ≤ 54
    last j q = omega arith

    four : m * 4 ^ (i + 1) ≡ 4 * (m * 4 ^ i)
    four = ap (λ (j : ℕ). m * 4 ^ j) (add-one i) ∙ ap (λ (j : ℕ). m * j) (pow-succ' 4 i) ∙ mul_left_comm m 4 (4 ^ i)

-- the code's two ways
pub is_one : (w : Digits) → trial_of w ≤ brought_down w → bit_one w ≡ next_bit w
unfolding next_bit
is_one w h = rw (le-leb (trial_of w) (brought_down w) h)

pub is_zero : (w : Digits) → brought_down w < trial_of w → bit_zero w ≡ next_bit w
unfolding next_bit
is_zero w h = rw (lt-leb (trial_of w) (brought_down w) h)

-- with either bit root² + remainder is what the pairs make, now one pair more
pub step : (m : ℕ) (w : Digits) (i : ℕ) → Worked m w i → i < 54 → Worked m (next_bit w) (i + 1)
step m w i d l = elim (dec_le (trial_of w) (brought_down w)) [
  | yes h ↦
      subst (λ (v : Digits). Worked m v (i + 1)) (is_one w h)
      (bit m w (bit_one w) i d l (taken (square w) (square (bit_one w)) (odd-sq w.root) h) (omega (arith, d.room.remainder, d.room.ahead)) (omega arith) refl)
  | no h ↦
      subst (λ (v : Digits). Worked m v (i + 1)) (is_zero w (lt_of_not-le h))
      (bit m w (bit_zero w) i d l (ap (λ (s : ℕ). s + brought_down w) (twice-sq w.root)) (omega arith) (omega arith) refl)
]
  where
    taken : (s t : ℕ) → t ≡ 4 * s + 4 * w.root + 1 → trial_of w ≤ brought_down w → t + (brought_down w - trial_of w) ≡ 4 * s + brought_down w
    taken s t a b = omega arith

-- ---- after 54 of them: the root of m * 2 ^ 54, rounded down
module _ (m : ℕ) (w : Digits) (d : Worked m w 54) where
  whole : square w + w.remainder ≡ m * 2 ^ 54
  whole = go (square w) d.sum d.room.ahead
    where
      go : (s : ℕ) → (s + w.remainder) * 2 ^ 54 + w.ahead ≡ m * 2 ^ 108 → w.ahead < 2 ^ 54 → s + w.remainder ≡ m * 2 ^ 54
      go s a b = omega arith

  over : m * 2 ^ 54 < (w.root + 1) * (w.root + 1)
  over = go (square w) ((w.root + 1) * (w.root + 1)) whole (next-sq w.root) d.room.remainder
    where
      go : (s t : ℕ) → s + w.remainder ≡ m * 2 ^ 54 → t ≡ s + 2 * w.root + 1 → w.remainder ≤ 2 * w.root → m * 2 ^ 54 < t
      go s t a b c = omega arith

  long : 2 ^ 52 ≤ m → 2 ^ 53 ≤ w.root
  long lo = let no : w.root < 2 ^ 53 → ⊥ = λ h. less ((w.root + 1) * (w.root + 1)) over (mul-le-mul (up h) (up h)) in omega arith
    where
      up : w.root < 2 ^ 53 → w.root + 1 ≤ 2 ^ 53
      up h = omega arith

      less : (t : ℕ) → m * 2 ^ 54 < t → t ≤ 2 ^ 53 * 2 ^ 53 → ⊥
      less t a b = omega arith

  -- so that none is rounded up to 2 ^ 53
  short : m < 2 ^ 54 - 1 → w.root < 2 ^ 54 - 1
  short hi = let no : w.root ≡ 2 ^ 54 - 1 → ⊥ = λ q. full (square w) (ap (λ (x : ℕ). x * x) q) whole in omega (arith, d.room.root)
    where
      full : (s : ℕ) → s ≡ (2 ^ 54 - 1) * (2 ^ 54 - 1) → s + w.remainder ≡ m * 2 ^ 54 → ⊥
      full s a b = omega arith

  -- Half of it, rounded up, is a + 1. The point half way below that is no tie: its double is odd, so is that one's square, and the argument is even.
  nearest-after : (a : ℕ) → a * 2 + 1 ≤ w.root → w.root ≤ a * 2 + 2 → 2 ^ 52 ≤ m → m < 2 ^ 54 - 1 → Nearest m (a + 1)
  nearest-after a l u lo hi = record {
    above = subst (λ (x : ℕ). x * x < m * 2 ^ 54) (half-way a) (go (square w) (a * a) _ whole (odd-sq a) (mul-le-mul l l));
    below = lt_of_lt_of_le over (mul-le-mul next next);
    long = omega (arith, long lo);
    short = omega (arith, short hi);
  }
    where
      half-way : (b : ℕ) → b * 2 + 1 ≡ 2 * (b + 1) - 1
      half-way b = omega arith

      next : w.root + 1 ≤ 2 * (a + 1) + 1
      next = omega arith

      go : (s u t : ℕ) → s + w.remainder ≡ m * 2 ^ 54 → t ≡ 4 * u + 4 * a + 1 → t ≤ s → t < m * 2 ^ 54
      go s u t x y z = omega arith

  pub nearest-of : 2 ^ 52 ≤ m → m < 2 ^ 54 - 1 → Nearest m ((w.root + 1) / 2)
  nearest-of lo hi =
      let some : 2 ^ 53 ≤ w.root = long lo in
      subst (Nearest m) (half w.root some) (nearest-after ((w.root + 1) / 2 - 1) (omega arith) (omega arith) lo hi)
    where
      half : (r : ℕ) → 2 ^ 53 ≤ r → (r + 1) / 2 - 1 + 1 ≡ (r + 1) / 2
      half r h = omega arith
