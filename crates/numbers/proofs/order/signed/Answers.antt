-- `numbers::order::signed` meets its contract: the highest bit of a pattern that is no NaN's is the sign. Assumes nothing.
use mathlib.Core.Path.{sym, subst, ap}
use lib.Dec.{T}
use lib.Ieee.{binary64, fits}
use Rattle.numbers.specs.Kinds.{negative}
use Rattle.numbers.proofs.Nans.{a-nan, not-nan}
use Rattle.numbers.proofs.Sign.{to_bits-sign}
use Rattle.numbers.proofs.order.signed.Goals as goal

pub returns-then-x : goal.returns-then-x
returns-then-x c = ap negative (sym (a-nan c.args.x c.if-x.true))

pub float_to_bits-result : goal.float_to_bits-result
float_to_bits-result c = not-nan c.args.x c.if-x.false

pub returns : goal.returns
returns c =
    let held : T (fits binary64 c.args.x) = subst T (sym c.well_formed.0.1) tt in
    to_bits-sign binary64 _ held (not-nan c.args.x c.if-x.false)
