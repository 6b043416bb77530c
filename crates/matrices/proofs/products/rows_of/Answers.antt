use Prim.Native.Nat.{◌/◌}
use native.Mathlib.Nat.{zero-add}
use native.Mathlib.Omega.{arith}
use lib.Ieee.{nan}
use Rattle.arrays.proofs.Part.{get_or-part}
use Rattle.arrays.proofs.Turns.{made-first, made_all}
use Rattle.several.proofs.Runs.{runs-all, but-kept}
use Rattle.matrices.specs.Products.{rows_of}
use Rattle.matrices.proofs.Lengths.{last-run}
use Rattle.matrices.proofs.Rows.{row_more, run_more}
use Rattle.matrices.proofs.products.rows_of.Goals as goal

pub eight-t-requires-clause-n_in_bounds : goal.eight-t-requires-clause-n_in_bounds
eight-t-requires-clause-n_in_bounds c =
    let g = c.args in
    omega (arith, last-run c.loop-i.i (g.rows / 8) g.rows g.cols (omega arith) c.loop-i-test.true)

pub loop-i-preserved : goal.loop-i-preserved
loop-i-preserved c =
    let g = c.args in
    let pre = c.requires in
    run_more g.m.now 0 g.cols g.v g.m.now _ c.eight-t.result _ c.loop-i.invariant c.loop-i-test.true (omega arith)
    (but-kept c.loop-i.invariant.but g.v g.cols (λ u. omega (arith, pre.off-vector u)) pre.vector) (λ q u. rw zero-add) (omega arith) c.eight-t.ensures
    c.put_eight.ensures

pub loop-i-2-init : goal.loop-i-2-init
loop-i-2-init c = made-first _ _ _ _ _ _ (omega arith) (runs-all c.loop-i.invariant (omega arith) (omega arith))

pub loop-i-2-preserved : goal.loop-i-2-preserved
loop-i-2-preserved c =
    let g = c.args in
    row_more g.m.now g.cols g.v _ _ c.loop-i-2.invariant c.loop-i-2-test.true c.requires.off-vector (λ j l. get_or-part g.m.now _ g.cols j nan l) c.product.ensures

pub returns : goal.returns
unfolding rows_of
returns c = made_all c.loop-i-2.invariant (omega arith)
