-- `logarithm::normal_ln` is `normal_ln` of the pattern with that power and those digits. Assumes nothing.
use mathlib.Core.Path.{◌∙◌}
use native.Mathlib.Omega.{arith}
use borrow.Author.Tests.{lt-ltb, le-ltb}
use Rattle.numbers.proofs.Nans.{bits-not-nan}
use Rattle.logarithm.proofs.Scaled.{ln_at, ln-at-power}
use Rattle.logarithm.proofs.normal_ln.Goals as goal

pub float_from_bits-x : goal.float_from_bits-x
float_from_bits-x c = bits-not-nan _ (omega arith)

pub returns-then-hx-lt3 : goal.returns-then-hx-lt3
unfolding ln_at
returns-then-hx-lt3 c = c.close.ensures ∙ (simp (lt-ltb _ 3 c.if-hx-lt3.true) at (ln-at-power c.args.power c.args.low c.requires.low_bound))

pub returns : goal.returns
unfolding ln_at
returns c = c.far.ensures ∙ (simp (le-ltb _ 3 c.if-hx-lt3.false) at (ln-at-power c.args.power c.args.low c.requires.low_bound))
