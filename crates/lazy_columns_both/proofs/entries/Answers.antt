use native.Mathlib.Omega.{arith}
use Rattle.arrays.specs.Part.{tab}
use Rattle.arrays.proofs.Part.{get_or-part}
use Rattle.arrays.specs.Vectors.{fill_of}
use Rattle.arrays.proofs.Turns.{made_none, array-more, made_all}
use lib.Ieee.{nan}
use Rattle.lazy_columns_both.proofs.entries.Goals as goal

pub loop-j-init : goal.loop-j-init
loop-j-init c = made_none _ _ _ _

pub loop-j-preserved : goal.loop-j-preserved
loop-j-preserved c =
    let g = c.args in
    let h = c.loop-j-test.true in
    let ec = get_or-part g.s.now g.l.centre g.p c.loop-j.j nan h in
    let es = get_or-part g.s.now g.l.scale g.p c.loop-j.j nan h in
    let eb = get_or-part g.s.now g.l.recip g.p c.loop-j.j nan h in
    array-more c.loop-j.invariant _ h (rw (c.normalise.ensures, ec, es, eb))

pub returns : goal.returns
unfolding fill_of tab
returns c = made_all c.loop-j.invariant (omega arith)
