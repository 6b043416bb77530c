use native.Mathlib.Omega.{arith}
use Rattle.arrays.proofs.Turns.{made_none, made_more, made_all, kept}
use Rattle.design.proofs.eager.normal_row.Goals as goal

pub loop-j-init : goal.loop-j-init
loop-j-init c = made_none _ _ _ _

pub loop-j-preserved : goal.loop-j-preserved
loop-j-preserved c =
    let g = c.args in
    let h = c.loop-j-test.true in
    let ce = kept c.loop-j.invariant g.ce h (λ l k. absurd (omega (arith, c.requires.centres))) in
    let sc = kept c.loop-j.invariant g.sc h (λ l k. absurd (omega (arith, c.requires.scales))) in
    made_more c.loop-j.invariant _ h (rw (ce, sc))

pub returns : goal.returns
returns c = made_all c.loop-j.invariant (omega arith)
