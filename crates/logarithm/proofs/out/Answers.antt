-- `logarithm::out` is `out_of`. Assumes nothing.
use Rattle.logarithm.specs.Log.{out_of}
use Rattle.logarithm.proofs.Whole.{zero-at, zero-off}
use Rattle.logarithm.proofs.out.Goals as goal

pub returns-then-c-eq1075 : goal.returns-then-c-eq1075
unfolding out_of
returns-then-c-eq1075 c = simp (zero-at _ 1075 c.if-c-eq1075.true)

pub returns : goal.returns
unfolding out_of
returns c = simp (c.exponent-dk.ensures, zero-off _ 1075 c.if-c-eq1075.false)
