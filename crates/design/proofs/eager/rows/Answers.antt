use native.Mathlib.Omega.{arith}
use Rattle.design.proofs.Grids.{written_none, written-more, written_all, part-below}
use Rattle.design.proofs.eager.rows.Goals as goal

pub loop-i-init : goal.loop-i-init
loop-i-init c = written_none _ _ _ _ _

pub loop-i-preserved : goal.loop-i-preserved
loop-i-preserved c =
    let g = c.args in
    let w = c.loop-i.invariant in
    written-more w _ c.loop-i-test.true
    (rw (part-below w g.ce g.p c.requires.centres, part-below w g.sc g.p c.requires.scales) at c.row.ensures)

pub returns : goal.returns
returns c = written_all c.loop-i.invariant (omega arith)
