-- `numbers::bits::of_bits` meets its contract: the patterns that it does not read are those of a NaN. Assumes nothing.
use mathlib.Core.Path.{sym}
use native.Mathlib.Omega.{arith}
use lib.Ieee.{div, of_bits}
use Rattle.numbers.proofs.Nans.{bits-nan, bits-not-nan}
use Rattle.numbers.proofs.bits.of_bits.Goals as goal

pub float_from_bits-result : goal.float_from_bits-result
float_from_bits-result c = bits-not-nan c.args.n (omega arith)

pub returns-then-n-gt9218868437227405312 : goal.returns-then-n-gt9218868437227405312
unfolding div of_bits
returns-then-n-gt9218868437227405312 c = sym (bits-nan c.args.n (omega arith))
