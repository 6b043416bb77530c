use mathlib.Core.Path.{◌≡◌, refl, ap}
use Prim.Native.Nat.{ℕ, ◌+◌, ◌*◌, ◌/◌}
use native.Mathlib.Omega.{arith}
use Rattle.arrays.specs.Sums.{◌!◌}
use Rattle.matrices.proofs.Lengths.{row_room, rows-room}
use Rattle.matrices.specs.Products.{columns_of}
use Rattle.matrix_columns.proofs.Summed.{alike, clear-row, clear-rows, summed-none, summed-more, summed-one}
use Rattle.matrix_columns.proofs.columns_both.Goals as goal

pub loop-i-init : goal.loop-i-init
loop-i-init c = (summed-none _ _ _ _ _ _ _ _ c.fill.ensures, summed-none _ _ _ _ _ _ _ _ c.fill-2.ensures)

pub add_four_both-requires-clause-four : goal.add_four_both-requires-clause-four
add_four_both-requires-clause-four c =
    let g = c.args in
    let h = rows-room (4 * c.loop-i.i) 4 g.rows g.cols (omega arith) in
    record { room = omega arith; last = omega arith; clear = λ k l. clear-rows c.requires.together (4 * c.loop-i.i) k (omega arith) }

pub loop-i-preserved : goal.loop-i-preserved
loop-i-preserved c =
    let pre = c.requires in
    let i = c.loop-i.i in
    let d = c.loop-i.invariant in
    let e : 4 * i + 4 ≡ 4 * (i + 1) = omega arith in
    let read : (v k : ℕ) → c.loop-i.s ! (v + 4 * i + k) ≡ c.loop-i.s ! (v + (4 * i + k)) = λ v k. ap (λ (a : ℕ). c.loop-i.s ! a) (omega arith) in (
      rw e at (summed-more (alike pre.together d.0) (4 * i) d.0 pre.together.room 4 (omega arith) _ (λ k l. read c.args.v k) _ c.add_four_both.ensures.s_after),
      rw e at (summed-more (alike pre.together_2 d.0) (4 * i) d.1 (omega (arith, pre.cols_in_bounds)) 4 (omega arith) _ (λ k l. read c.args.w k) _ c.add_four_both.ensures.t_after),
    )

pub loop-i-2-init : goal.loop-i-2-init
loop-i-2-init c =
    let e : c.loop-i.i ≡ c.args.rows / 4 = omega arith in
    rw e at c.loop-i.invariant

pub add_scaled_from-requires : goal.add_scaled_from-requires
add_scaled_from-requires c =
    let l = row_room c.loop-i-2.i c.args.rows c.args.cols c.loop-i-2-test.true in
    record { n_in_bounds = omega arith; n_in_bounds_2 = omega arith }

pub add_scaled-requires : goal.add_scaled-requires
add_scaled-requires c =
    let h = c.loop-i-2-test.true in
    let l = row_room c.loop-i-2.i c.args.rows c.args.cols h in
    record { room = omega arith; first = omega arith; second = omega arith; clear = λ _ _. refl; clear2 = clear-row c.requires.together c.loop-i-2.i h }

pub loop-i-2-preserved : goal.loop-i-2-preserved
loop-i-2-preserved c =
    let pre = c.requires in
    let i = c.loop-i-2.i in
    let h = c.loop-i-2-test.true in
    let d = c.loop-i-2.invariant in (
      summed-one (alike pre.together d.0) i d.0 pre.together.room h _ c.add_scaled.ensures,
      summed-one (alike pre.together_2 d.0) i d.1 (omega (arith, pre.cols_in_bounds)) h _ c.add_scaled_from.ensures,
    )

pub returns : goal.returns
unfolding columns_of
returns c =
    let e : c.loop-i-2.i ≡ c.args.rows = omega arith in
    let d = rw e at c.loop-i-2.invariant in
    record { s_after = d.0.is; t_after = d.1.is }
