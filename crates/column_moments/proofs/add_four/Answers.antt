use mathlib.Core.Path.{◌≡◌, refl}
use native.Mathlib.Omega.{arith}
use lib.ListN.{length-set}
use Rattle.several.proofs.Added.{gathered_none, gathered-more}
use Rattle.column_moments.specs.Added.{itself, squared, rows_added}
use Rattle.column_moments.proofs.Pairs.{pair-none, column-added}
use Rattle.column_moments.proofs.add_four.Goals as goal

pub loop-j-init : goal.loop-j-init
loop-j-init c = (omega arith, pair-none _ _ _ _ _ (omega arith) (omega arith))

pub loop-k-init : goal.loop-k-init
loop-k-init c = (omega arith, gathered_none _ _ _ _ _ _ _, gathered_none _ _ _ _ _ _ _)

pub loop-k-preserved : goal.loop-k-preserved
loop-k-preserved c = (omega arith, gathered-more itself _ _ _ _ _ _ _ _ _ c.loop-k.invariant.1 refl, gathered-more squared _ _ _ _ _ _ _ _ _ c.loop-k.invariant.2 refl)

pub bounds-s-squares-in-loop-j : goal.bounds-s-squares-in-loop-j
bounds-s-squares-in-loop-j c = simp length-set (omega arith)

pub loop-j-preserved : goal.loop-j-preserved
loop-j-preserved c =
    let two = c.loop-k in
    let g = c.args in
    let e : two.k ≡ 4 = omega arith in
    (omega arith, column-added g.m.now g.at g.cols 4 c.loop-j.invariant.1 (omega arith) (omega arith) (rw e at two.invariant.1) (rw e at two.invariant.2))

pub returns : goal.returns
unfolding rows_added
returns c =
    let e : c.loop-j.j ≡ c.args.cols = omega arith in
    rw e at c.loop-j.invariant.1.is
