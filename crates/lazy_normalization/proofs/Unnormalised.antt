-- A column that is not normalised has the centre +0 and the scale 1: its entries are the raw numbers. Assumes nothing.
use mathlib.Core.Path.{◌≡◌, refl, ap, ◌∙◌}
use lib.Dec.{T}
use lib.Ieee.{Float, binary64, fits, div, le, of_bits}
use Rattle.numbers.specs.Ops.{◌⊖◌, ◌⊗◌, ◌⊘◌, magnitude_of}
use Rattle.numbers.specs.Constants.{one}
use Rattle.arrays.specs.Sums.{plus0}
use Rattle.lazy_normalization.specs.Lazy.{is_normal, reciprocal_of, normalised}
use Rattle.lazy_normalization.proofs.Choice.{times-reciprocal}
use Rattle.lazy_normalization.proofs.Neutral.{less_zero, times-one}

one_by_one : one ⊘ one ≡ one
unfolding div of_bits
one_by_one = refl

one-normal : T (is_normal one)
unfolding is_normal magnitude_of le of_bits
one-normal = tt

pub unnormalised : (raw : Float) → T (fits binary64 raw) → normalised raw plus0 one (reciprocal_of one) ≡ raw
unnormalised raw f =
    times-reciprocal raw plus0 one one-normal (rw one_by_one one-normal)
    ∙ ap (λ (y : Float). (raw ⊖ plus0) ⊗ y) one_by_one
    ∙ ap (λ (y : Float). y ⊗ one) (less_zero raw f)
    ∙ times-one raw f
