-- `logarithm::mid` is `mid_of`. Assumes nothing.
use Rattle.logarithm.specs.Log.{mid_of}
use Rattle.logarithm.proofs.Whole.{zero-at, zero-off}
use Rattle.logarithm.proofs.mid.Goals as goal

pub returns-then-c-eq1075 : goal.returns-then-c-eq1075
unfolding mid_of
returns-then-c-eq1075 c = simp (zero-at _ 1075 c.if-c-eq1075.true)

pub returns : goal.returns
unfolding mid_of
returns c = simp (c.exponent-dk.ensures, zero-off _ 1075 c.if-c-eq1075.false)
