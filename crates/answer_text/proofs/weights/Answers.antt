use native.Mathlib.Omega.{arith}
use Rattle.answer_text.proofs.Lines.{lined-none, lined-more, all-lined}
use Rattle.answer_text.proofs.weights.Goals as goal

pub loop-j-init : goal.loop-j-init
loop-j-init c = lined-none _ _ _

pub loop-j-preserved : goal.loop-j-preserved
loop-j-preserved c = lined-more c.loop-j.invariant (omega arith) (omega arith) c.weight-a.ensures

pub returns : goal.returns
returns c = all-lined c.loop-j.invariant (omega arith)
