use Prim.Native.Nat.{ℕ, ◌+◌, ◌*◌, ◌/◌, ◌<◌}
use mathlib.Core.Path.{◌≡◌, refl, sym, ap, ◌∙◌}
use mathlib.Core.List.{List}
use native.Mathlib.Omega.{arith}
use lib.Ieee.{Float, nan}
use Rattle.arrays.specs.Part.{part}
use Rattle.arrays.proofs.Part.{get_or-part}
use Rattle.arrays.specs.Sums.{◌!◌}
use Rattle.arrays.proofs.Turns.{made-first, made_all}
use Rattle.several.proofs.Runs.{runs_none, runs-all, but-kept}
use Rattle.matrices.specs.Products.{rows_of}
use Rattle.matrices.proofs.Lengths.{in-runs, last-run}
use Rattle.matrices.proofs.Rows.{row_kept, row_more, run_more}
use Rattle.matrices.proofs.products.rows.Goals as goal

pub loop-i-init : goal.loop-i-init
loop-i-init c = runs_none _ _ 8 _ _

pub eight-t-requires-clause-n_in_bounds : goal.eight-t-requires-clause-n_in_bounds
eight-t-requires-clause-n_in_bounds c =
    let g = c.args in
    omega (arith, last-run c.loop-i.i (g.rows / 8) g.rows g.cols (omega arith) c.loop-i-test.true)

pub loop-i-preserved : goal.loop-i-preserved
loop-i-preserved c =
    let g = c.args in
    let pre = c.requires in
    let but = c.loop-i.invariant.but in
    let all = g.rows * g.cols in
    let held : (q : ℕ) → q < 8 * (g.rows / 8) * g.cols → c.loop-i.s ! (g.mat + q) ≡ part g.s.now g.mat all ! q =
    λ q u.
    let l : q < all = omega (arith, in-runs (g.rows / 8) g.rows g.cols (omega arith)) in
    sym (get_or-part _ g.mat all q nan l) ∙ ap (λ (t : List Float). t ! q) (but-kept but g.mat all (λ u. omega (arith, pre.off-matrix u)) pre.matrix) in
    run_more (part g.s.now g.mat all) g.mat g.cols g.v _ _ c.eight-t.result _ c.loop-i.invariant c.loop-i-test.true (omega arith)
    (but-kept but g.v g.cols (λ u. omega (arith, pre.off-vector u)) pre.vector) held refl c.eight-t.ensures c.put_eight.ensures

pub loop-i-2-init : goal.loop-i-2-init
loop-i-2-init c = made-first _ _ _ _ _ _ (omega arith) (runs-all c.loop-i.invariant (omega arith) (omega arith))

pub loop-i-2-preserved : goal.loop-i-2-preserved
loop-i-2-preserved c =
    let g = c.args in
    let d = c.loop-i-2.invariant in
    let h = c.loop-i-2-test.true in
    row_more (part g.s.now g.mat (g.rows * g.cols)) g.cols g.v _ _ d h c.requires.off-vector
    (row_kept d g.mat g.rows g.cols c.loop-i-2.i _ c.requires.off-matrix h refl) c.product.ensures

pub returns : goal.returns
unfolding rows_of
returns c = made_all c.loop-i-2.invariant (omega arith)
