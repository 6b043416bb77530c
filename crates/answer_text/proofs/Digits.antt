-- The digits of a number, one turn of each recursion, and how many there are. Assumes nothing.
use mathlib.Core.Path.{◌≡◌, refl}
use mathlib.Core.Bool.{Bool, true, false, cond}
use mathlib.Core.List.{List, [], ◌∷◌, ◌++◌}
use Prim.Native.Nat.{ℕ, zero, suc, ◌+◌, ◌-◌, ◌/◌, ◌%◌, ◌≤◌, ◌<◌}
use native.Mathlib.Numerals.{sub-one}
use native.Mathlib.Omega.{arith}
use borrow.Author.Tests.{lt-ltb, le-ltb}
use lib.Dec.{ltb}
use lib.ListN.{length, set, length-append}
use Rattle.answer_text.specs.Text.{Wrote, digit_of, hex_of, decimal_from}
use Rattle.answer_text.proofs.Writes.{wrote_none, more}

pub hex-long : (k n : ℕ) → length (hex_of k n) ≤ k
unfolding hex_of
hex-long zero n = omega arith
hex-long (suc k) n = omega (arith, length-append (hex_of k (n / 16)) (digit_of (n % 16) ∷ []), hex-long k (n / 16))

-- what a call writes with no digits left, and behind those of its own call
module _ {m : List ℕ} {at : ℕ} where
  pub no-hex : (k n : ℕ) → k ≡ 0 → Wrote m at (hex_of k n) at m
  unfolding hex_of
  no-hex k n e = rw e (wrote_none m at)

  pub hex-more : (k n : ℕ) {a : ℕ} {out : List ℕ} (d : ℕ) → ((k ≡ 0) → ⊥) → Wrote m at (hex_of (k - 1) (n / 16)) a out → d ≡ digit_of (n % 16)
      → Wrote m at (hex_of k n) (a + 1) (set out a d)
  unfolding hex_of
  hex-more zero n d f h e = absurd (f refl)
  hex-more (suc k) n d f h e = rw (← e) (more (rw (sub-one (suc k)) at h) d)

-- ---- decimal, without zeros in front

pub decimal-long : (k n : ℕ) → length (decimal_from k n) ≤ k
unfolding decimal_from
decimal-long zero n = omega arith
decimal-long (suc k) n = go (ltb n 10) (decimal-long k (n / 10)) where
  go : (b : Bool) → length (decimal_from k (n / 10)) ≤ k
      → length (cond b (digit_of n ∷ []) (decimal_from k (n / 10) ++ digit_of (n % 10) ∷ [])) ≤ suc k
  go true h = omega arith
  go false h = omega (arith, length-append (decimal_from k (n / 10)) (digit_of (n % 10) ∷ []))

module _ {m : List ℕ} {at : ℕ} where
  pub no-decimal : (k n : ℕ) → k ≡ 0 → Wrote m at (decimal_from k n) at m
  unfolding decimal_from
  no-decimal k n e = rw e (wrote_none m at)

  pub one-digit : (k n d : ℕ) → ((k ≡ 0) → ⊥) → n < 10 → d ≡ digit_of n → Wrote m at (decimal_from k n) (at + 1) (set m at d)
  unfolding decimal_from
  one-digit zero n d f l e = absurd (f refl)
  one-digit (suc k) n d f l e = rw (lt-ltb n 10 l, ← e) (more (wrote_none m at) d)

  pub decimal-more : (k n : ℕ) {a : ℕ} {out : List ℕ} (d : ℕ) → ((k ≡ 0) → ⊥) → 10 ≤ n → Wrote m at (decimal_from (k - 1) (n / 10)) a out
      → d ≡ digit_of (n % 10) → Wrote m at (decimal_from k n) (a + 1) (set out a d)
  unfolding decimal_from
  decimal-more zero n d f l h e = absurd (f refl)
  decimal-more (suc k) n d f l h e = rw (le-ltb n 10 l, ← e) (more (rw (sub-one (suc k)) at h) d)

-- two digits at most
below-ten : (k n : ℕ) → n < 10 → length (decimal_from k n) ≤ 1
unfolding decimal_from
below-ten zero n h = omega arith
below-ten (suc k) n h = rw (lt-ltb n 10 h) (omega arith)

pub below-hundred : (k n : ℕ) → n < 100 → length (decimal_from k n) ≤ 2
unfolding decimal_from
below-hundred zero n h = omega arith
below-hundred (suc k) n h = go (ltb n 10) where
  go : (b : Bool) → length (cond b (digit_of n ∷ []) (decimal_from k (n / 10) ++ digit_of (n % 10) ∷ [])) ≤ 2
  go true = omega arith
  go false = omega (arith, length-append (decimal_from k (n / 10)) (digit_of (n % 10) ∷ []), below-ten k (n / 10) (omega arith))
