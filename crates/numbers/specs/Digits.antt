-- One bit of a root as the code works it, with its trial and its remainder; `root_of` is not defined by it. Definitions only.
use Rattle.std.specs.Prelude.{cond, ℕ, ◌+◌, ◌-◌, ◌*◌, ◌/◌, ◌%◌, ◌^◌, ◌≤◌, ◌<◌, leb}
use Rattle.numbers.specs.declared.square_root.Digits.{Digits}

-- the remainder with the argument's next pair of bits behind it
abbrev pub brought_down : Digits → ℕ
brought_down w = w.remainder * 4 + w.ahead / 2 ^ 52

-- what a 1 adds to the square: (2 * root + 1)² is (2 * root)² + (4 * root + 1)
abbrev pub trial_of : Digits → ℕ
trial_of w = w.root * 4 + 1

abbrev pub bit_one : Digits → Digits
bit_one w = record { root = w.root * 2 + 1; remainder = brought_down w - trial_of w; ahead = w.ahead % 2 ^ 52 * 4 }

abbrev pub bit_zero : Digits → Digits
bit_zero w = record { root = w.root * 2; remainder = brought_down w; ahead = w.ahead % 2 ^ 52 * 4 }

unfoldable pub next_bit : Digits → Digits
next_bit w = cond (leb (trial_of w) (brought_down w)) (bit_one w) (bit_zero w)

-- A remainder above 2 * root would have given the root one more; the sizes are those of 54 bits of a root and of 54 bits of its argument.
pub record Workable (w : Digits) : Type 0 where
  pub root : w.root < 2 ^ 54
  pub remainder : w.remainder ≤ 2 * w.root
  pub ahead : w.ahead < 2 ^ 54
