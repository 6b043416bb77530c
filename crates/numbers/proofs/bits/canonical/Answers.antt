-- `numbers::bits::canonical` meets its contract: 0.0 / 0.0 is the NaN that x is. Assumes nothing.
use mathlib.Core.Path.{sym}
use lib.Ieee.{div, of_bits}
use Rattle.numbers.proofs.Nans.{a-nan}
use Rattle.numbers.proofs.bits.canonical.Goals as goal

pub returns-then-x : goal.returns-then-x
unfolding div of_bits
returns-then-x c = sym (a-nan c.args.x c.if-x.true)
