-- 01's worked answers, computed. Assumes nothing.
use mathlib.Core.Path.{◌≡◌, refl}
use mathlib.Core.List.{[], ◌∷◌}
use Rattle.refusal.specs.declared.Way.TheVariants.{Limit}
use Rattle.answer_text.specs.Text.{bytes, digit_of, hex_of, decimal_from, decimal_of, count_text, word_text, end_text, counts_text}
use Rattle.answer_text.specs.Text.{weight_text, weights_text, done_text, refused_text}

-- the sheet of two rows that ends at its limit, with intercept 2 and weight 0
sheet : done_text Limit 0 0 0 0x4000000000000000 (0 ∷ [])
    ≡ bytes "ended limit\nrounds 0 solver 0 trials 0\nintercept 4000000000000000\nw 0 0000000000000000\n"
unfolding digit_of hex_of decimal_from count_text word_text end_text counts_text weight_text weights_text done_text
sheet = refl

flat : refused_text 8 0 ≡ bytes "refused 8 at 0\n"
unfolding digit_of decimal_from count_text refused_text
flat = refl

-- 20 digits hold the largest count
largest : decimal_of 18446744073709551615 ≡ bytes "18446744073709551615"
unfolding digit_of decimal_from
largest = refl
