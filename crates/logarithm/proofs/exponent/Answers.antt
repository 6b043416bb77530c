-- `logarithm::exponent` is the float of c - 1075: by the magnitude's float, negated where c is below 1075. Assumes nothing.
use mathlib.Core.Path.{◌∙◌, ap}
use lib.Ieee.{binary64, neg}
use Rattle.logarithm.proofs.Whole.{float_up, float-down}
use Rattle.logarithm.proofs.exponent.Goals as goal

pub returns-then-c-lt1075 : goal.returns-then-c-lt1075
returns-then-c-lt1075 c = ap neg c.small.ensures ∙ float-down binary64 _ 1075 c.if-c-lt1075.true

pub returns : goal.returns
returns c = c.small-2.ensures ∙ float_up binary64 _ 1075 c.if-c-lt1075.false
