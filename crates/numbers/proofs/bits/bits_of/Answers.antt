-- `numbers::bits::bits_of` meets its contract: a NaN has the pattern that `to_bits` writes for it. Assumes nothing.
use mathlib.Core.Path.{◌≡◌, refl, sym, ap, ◌∙◌}
use lib.Ieee.{nan, binary64, to_bits}
use Rattle.numbers.proofs.Nans.{a-nan, not-nan}
use Rattle.numbers.proofs.bits.bits_of.Goals as goal

nan-bits : 0x7ff8_0000_0000_0000 ≡ to_bits binary64 nan
unfolding to_bits
nan-bits = refl

pub float_to_bits-result : goal.float_to_bits-result
float_to_bits-result c = not-nan c.args.x c.if-x.false

pub returns-then-x : goal.returns-then-x
returns-then-x c = nan-bits ∙ ap (to_bits binary64) (sym (a-nan c.args.x c.if-x.true))
