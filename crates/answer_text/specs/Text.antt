-- The text of an answer, byte by byte. Definitions only.
use Rattle.std.specs.Prelude.{◌≡◌, cond, List, [], ◌∷◌, ◌++◌, ℕ, zero, suc, ◌+◌, ◌/◌, ◌%◌, ltb, length, get_or, drop}
use Prim.Native.Char.{code}
use Prim.Native.String.{String, [] as none, ◌∷◌ as ◌then◌}
use Rattle.arrays.specs.Part.{put}
use Rattle.refusal.specs.declared.Way.{Way}
use Rattle.refusal.specs.declared.Way.TheVariants.{Converged, Limit}

-- the bytes of a text of plain characters
abbrev pub bytes : String → List ℕ
bytes none = []
bytes (c then s) = code c ∷ bytes s

-- a digit, to base 16 at most: 0 to 9, then a to f
unfoldable pub digit_of : ℕ → ℕ
digit_of d = cond (ltb d 10) (48 + d) (87 + d)

-- the last k hexadecimal digits of n
unfoldable pub hex_of : ℕ → ℕ → List ℕ
hex_of zero n = []
hex_of (suc k) n = hex_of k (n / 16) ++ digit_of (n % 16) ∷ []

-- n in decimal, without zeros in front: 20 digits are enough for 64 bits
unfoldable pub decimal_from : ℕ → ℕ → List ℕ
decimal_from zero n = []
decimal_from (suc k) n = cond (ltb n 10) (digit_of n ∷ []) (decimal_from k (n / 10) ++ digit_of (n % 10) ∷ [])

abbrev pub decimal_of : ℕ → List ℕ
decimal_of n = decimal_from 20 n

-- ---- lines

-- a label and a count
unfoldable pub count_text : List ℕ → ℕ → List ℕ
count_text label n = label ++ decimal_of n

-- a label, the 16 digits of a word, and the line's end
unfoldable pub word_text : List ℕ → ℕ → List ℕ
word_text label x = label ++ hex_of 16 x ++ bytes "\n"

unfoldable pub end_text : Way → List ℕ
end_text Converged = bytes "ended converged\n"
end_text Limit = bytes "ended limit\n"

unfoldable pub counts_text : ℕ → ℕ → ℕ → List ℕ
counts_text rounds solver trials =
    count_text (bytes "rounds ") rounds ++ count_text (bytes " solver ") solver ++ count_text (bytes " trials ") trials ++ bytes "\n"

unfoldable pub weight_text : ℕ → ℕ → List ℕ
weight_text j x = count_text (bytes "w ") j ++ word_text (bytes " ") x

-- the lines of the columns below n
unfoldable pub weights_text : List ℕ → ℕ → List ℕ
weights_text w zero = []
weights_text w (suc j) = weights_text w j ++ weight_text j (get_or w j 0)

-- ---- answers

-- how the fit ended, its counts, the intercept, and a line for each weight
unfoldable pub done_text : Way → ℕ → ℕ → ℕ → ℕ → List ℕ → List ℕ
done_text e rounds solver trials intercept w =
    end_text e ++ counts_text rounds solver trials ++ word_text (bytes "intercept ") intercept ++ weights_text w (length w)

unfoldable pub refused_text : ℕ → ℕ → List ℕ
refused_text number place = count_text (bytes "refused ") number ++ count_text (bytes " at ") place ++ bytes "\n"

-- ---- what is written

-- a text stands in m from a place on: the place after it, and what m then holds
pub record Wrote (m : List ℕ) (at : ℕ) (text : List ℕ) (next : ℕ) (after : List ℕ) : Type 0 where
  pub ends : next ≡ at + length text
  pub is : after ≡ put m at text

-- the answer, how many bytes, and the final content of the lent slice
pub data Written : Type 0 where
  written : ℕ → List ℕ → Written

-- the text at the front, where 2,048 bytes are lent; else nothing
unfoldable pub laid : List ℕ → List ℕ → Written
laid text out = cond (ltb (length out) 2048) (written 0 out) (written (length text) (text ++ drop (length text) out))

-- what `write_done` answers and leaves: nothing for more than 64 weights
unfoldable pub done_of : Way → ℕ → ℕ → ℕ → ℕ → List ℕ → List ℕ → Written
done_of e rounds solver trials intercept w out =
    cond (ltb 64 (length w)) (written 0 out) (laid (done_text e rounds solver trials intercept w) out)

abbrev pub refused_of : ℕ → ℕ → List ℕ → Written
refused_of number place out = laid (refused_text number place) out
