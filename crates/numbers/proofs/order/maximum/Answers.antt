-- `numbers::order::maximum` meets its contract: each return is the case that the tests before it pick. Assumes nothing.
use mathlib.Core.Path.{sym, ◌∙◌}
use Rattle.numbers.specs.Order.{maximum_of}
use Rattle.numbers.proofs.Nans.{a-nan, no_nan}
use Rattle.numbers.proofs.order.maximum.Goals as goal

pub returns-then-x : goal.returns-then-x
unfolding maximum_of
returns-then-x c = rw (c.canonical.ensures, a-nan c.args.x c.if-x.true)

pub returns-then-x-y : goal.returns-then-x-y
unfolding maximum_of
returns-then-x-y c = simp (no_nan c.args.x c.if-x.false, c.if-x-y.true)

pub returns-then-signed : goal.returns-then-signed
unfolding maximum_of
returns-then-signed c =
    let minus = sym c.signed.ensures ∙ c.if-signed.true in
    simp (no_nan c.args.x c.if-x.false, c.if-x-y.false, c.if-x-y-2.true, minus)

pub returns-else-signed : goal.returns-else-signed
unfolding maximum_of
returns-else-signed c =
    let minus = sym c.signed.ensures ∙ c.if-signed.false in
    simp (no_nan c.args.x c.if-x.false, c.if-x-y.false, c.if-x-y-2.true, minus)

pub returns-else-x-y-2 : goal.returns-else-x-y-2
unfolding maximum_of
returns-else-x-y-2 c = simp (no_nan c.args.x c.if-x.false, c.if-x-y.false, c.if-x-y-2.false)
