use native.Mathlib.Nat.{zero-add}
use native.Mathlib.Omega.{arith}
use Rattle.several.proofs.Runs.{runs_none, runs-spread, runs-all}
use Rattle.prediction.specs.Predict.{predicted_of}
use Rattle.prediction.proofs.EachRow.{of-eight}
use Rattle.prediction.proofs.runs.Goals as goal

pub loop-i-init : goal.loop-i-init
loop-i-init c = runs_none _ _ 8 _ _

pub loop-i-preserved : goal.loop-i-preserved
loop-i-preserved c =
    let g = c.args in
    let i = c.loop-i.i in
    let h = c.loop-i-test.true in
    runs-spread c.loop-i.invariant _ _ (rw (zero-add i) c.put_eight.ensures) h (omega arith)
    (of-eight g.p g.x.now g.w.now g.b i c.requires.w_len g.e c.eight-t.result c.finish.result h c.eight-t.ensures
    c.finish.ensures)

pub shape_of-out : goal.shape_of-out
shape_of-out c = c.loop-i.invariant.but.long

pub returns : goal.returns
unfolding predicted_of
returns c = runs-all c.loop-i.invariant (omega arith) (omega arith)
