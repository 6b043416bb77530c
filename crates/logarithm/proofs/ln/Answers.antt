-- `logarithm::ln` is `ln_of`: the specials by their patterns, and any other value by its power and digits. Assumes nothing.
use mathlib.Core.Path.{◌≡◌, ◌∙◌, refl, sym, ap, subst}
use mathlib.Core.Bool.{Bool, true}
use lib.Dec.{T}
use native.Mathlib.Omega.{arith}
use lib.Ieee.{nan, inf, binary64, div, neg, of_bits}
use lib.Ieee.Bits.{of_bits-to_bits}
use Rattle.logarithm.specs.Log.{ln_of}
use Rattle.numbers.proofs.Nans.{a-nan, not-nan}
use Rattle.logarithm.proofs.Scaled.{leading-zeros-agree}
use Rattle.logarithm.proofs.Specials.{ln-nan, ln-of-zero-bits, ln-of-signed-bits, ln-of-top-bits}
use Rattle.logarithm.proofs.ln.Goals as goal

passed : (b : Bool) → b ≡ true → T b
passed b e = subst T (sym e) tt

-- what the code writes for a NaN and for -infinity
nan-made : div binary64 (of_bits binary64 0) (of_bits binary64 0) ≡ nan
unfolding div of_bits
nan-made = refl

infinity-made : div binary64 (neg (of_bits binary64 0x3ff0000000000000)) (of_bits binary64 0) ≡ inf true
unfolding div neg of_bits
infinity-made = refl

pub returns-then-x : goal.returns-then-x
returns-then-x c = nan-made ∙ sym (ap ln_of (a-nan _ c.if-x.true) ∙ ln-nan)

pub float_to_bits-bits : goal.float_to_bits-bits
float_to_bits-bits c = not-nan c.args.x c.if-x.false

pub returns-then-bits-eq0 : goal.returns-then-bits-eq0
returns-then-bits-eq0 c = infinity-made ∙ sym (ln-of-zero-bits _ c.if-bits-eq0.true)

pub returns-then-bits-ge9223372036854775808 : goal.returns-then-bits-ge9223372036854775808
returns-then-bits-ge9223372036854775808 c = nan-made ∙ sym (ln-of-signed-bits _ c.if-bits-eq0.false c.if-bits-ge9223372036854775808.true)

pub returns-then-bits-ge9218868437227405312 : goal.returns-then-bits-ge9218868437227405312
returns-then-bits-ge9218868437227405312 c = sym (ln-of-top-bits _ (passed _ c.well_formed.0.1) c.if-bits-ge9218868437227405312.true c.if-bits-ge9223372036854775808.false)

pub returns : goal.returns
returns c =
    let n = c.normalised-n in
    c.normal_ln.ensures
    ∙ sym (leading-zeros-agree _ _ _ (omega arith) c.if-bits-ge9218868437227405312.false n.ensures)
    ∙ ap ln_of (of_bits-to_bits binary64 c.args.x (passed _ c.well_formed.0.1))
