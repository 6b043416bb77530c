-- Plain values as words. Definitions only.
use Rattle.std.specs.Prelude.{Bool, true, false, not, List, [], ◌∷◌, ℕ, ◌+◌, eqb, get_or, Float}
use Rattle.std.specs.Float.{binary64}
use Rattle.std.specs.Float.Ieee.{to_bits}
use Rattle.numbers.specs.Ops.{f64}
use Rattle.c_values.specs.declared.Floats.{Floats}

-- the i-th word, 0 where there is none, so that it is total
abbrev pub word : List ℕ → ℕ → ℕ
word w i = get_or w i 0

-- a word is false where it is 0
abbrev pub truth : ℕ → Bool
truth k = not (eqb k 0)

abbrev pub truth_word : Bool → ℕ
truth_word true = 1
truth_word false = 0

-- a value's bits; a NaN has one pattern
abbrev pub bits : Float → ℕ
bits x = to_bits binary64 x

abbrev pub floats_from : List ℕ → ℕ → Floats
floats_from w i = record { 0 = f64 (word w i); 1 = f64 (word w (i + 1)); 2 = f64 (word w (i + 2)) }

abbrev pub floats_words : Floats → List ℕ
floats_words f = bits f.0 ∷ bits f.1 ∷ bits f.2 ∷ []
