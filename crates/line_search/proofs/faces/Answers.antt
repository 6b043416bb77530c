use native.Mathlib.Omega.{arith}
use lib.ListN.{length-set}
use Rattle.line_search.specs.Search.{faces_of}
use Rattle.line_search.proofs.Pairs.{paired_none, paired-more, apart, paired-all}
use Rattle.line_search.proofs.faces.Goals as goal

pub loop-i-init : goal.loop-i-init
loop-i-init c = paired_none _ _ _ _

pub bounds-s-at-in-loop-i : goal.bounds-s-at-in-loop-i
bounds-s-at-in-loop-i c = simp length-set (omega arith)

pub loop-i-preserved : goal.loop-i-preserved
loop-i-preserved c =
    let g = c.args in
    let m = c.loop-i.invariant in
    let ew = apart m g.w c.requires.off-first (omega arith) in
    let eu = apart m g.u c.requires.off-second (omega arith) in
    paired-more m _ _ (omega arith) (rw (ew, eu)) (rw (ew, eu))

pub returns : goal.returns
unfolding faces_of
returns c = paired-all c.loop-i.invariant (omega arith)
