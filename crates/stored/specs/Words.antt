-- What a word of 16 hexadecimal digits says. Definitions only.
use Rattle.std.specs.Prelude.{ℕ, ◌+◌, ◌-◌, ◌*◌, Bool, cond, ◌&&◌, ◌||◌, List, [], ◌∷◌, Option, None, Some, length, take, drop, ◌==◌, nat_le, slice_index}
use Rattle.std.specs.Option.{option_and_then}

-- a digit's value, none for any other byte: 0 to 9 are bytes 48 to 57, a to f are 97 to 102
unfoldable pub digit_of : ℕ → Option ℕ
digit_of b = cond (nat_le 48 b && nat_le b 57) (Some (b - 48)) (cond (nat_le 97 b && nat_le b 102) (Some (b - 97 + 10)) None)

-- the number that digits write behind the number n, none where one of them is none
unfoldable pub hex_from : ℕ → List ℕ → Option ℕ
hex_from n [] = Some n
hex_from n (b ∷ bs) = option_and_then (λ d. hex_from (n * 16 + d) bs) (digit_of b)

unfoldable pub ends_word : ℕ → Bool
ends_word b = b == 32 || b == 10

-- 16 digits from `at` on, and the byte after them
unfoldable pub word_at : List ℕ → ℕ → Option ℕ
word_at s at = cond (nat_le (at + 17) (length s) && ends_word (slice_index s (at + 16))) (hex_from 0 (take 16 (drop at s))) None
