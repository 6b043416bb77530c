-- `numbers::order::minimum` meets its contract: each return is the case that the tests before it pick. Assumes nothing.
use mathlib.Core.Path.{sym, ◌∙◌}
use Rattle.numbers.specs.Order.{minimum_of}
use Rattle.numbers.proofs.Nans.{a-nan, no_nan}
use Rattle.numbers.proofs.order.minimum.Goals as goal

pub returns-then-x : goal.returns-then-x
unfolding minimum_of
returns-then-x c = rw (c.canonical.ensures, a-nan c.args.x c.if-x.true)

pub returns-then-y-x : goal.returns-then-y-x
unfolding minimum_of
returns-then-y-x c = simp (no_nan c.args.x c.if-x.false, c.if-y-x.true)

pub returns-then-signed : goal.returns-then-signed
unfolding minimum_of
returns-then-signed c =
    let minus = sym c.signed.ensures ∙ c.if-signed.true in
    simp (no_nan c.args.x c.if-x.false, c.if-y-x.false, c.if-x-y.true, minus)

pub returns-then-x-y : goal.returns-then-x-y
unfolding minimum_of
returns-then-x-y c =
    let minus = sym c.signed.ensures ∙ c.if-signed.false in
    simp (no_nan c.args.x c.if-x.false, c.if-y-x.false, c.if-x-y.true, minus)

pub returns : goal.returns
unfolding minimum_of
returns c = simp (no_nan c.args.x c.if-x.false, c.if-y-x.false, c.if-x-y.false)
