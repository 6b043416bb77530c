-- `logarithm::close` is `close_of`: its branches are the code's tests. Assumes nothing.
use Rattle.logarithm.specs.Log.{close_of}
use Rattle.logarithm.proofs.Whole.{zero-at, zero-off}
use Rattle.logarithm.proofs.close.Goals as goal

pub returns-then-c-eq1075 : goal.returns-then-c-eq1075
unfolding close_of
returns-then-c-eq1075 c = simp (c.if-f.true, zero-at _ 1075 c.if-c-eq1075.true)

pub returns-then-f : goal.returns-then-f
unfolding close_of
returns-then-f c = simp (c.exponent-dk.ensures, c.if-f.true, zero-off _ 1075 c.if-c-eq1075.false)

pub returns-then-c-eq1075-2 : goal.returns-then-c-eq1075-2
unfolding close_of
returns-then-c-eq1075-2 c = simp (c.if-f.false, zero-at _ 1075 c.if-c-eq1075-2.true)

pub returns : goal.returns
unfolding close_of
returns c = simp (c.exponent-dk.ensures, c.if-f.false, zero-off _ 1075 c.if-c-eq1075-2.false)
