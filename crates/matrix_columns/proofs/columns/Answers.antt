use mathlib.Core.Path.{◌≡◌, refl, ap}
use Prim.Native.Nat.{ℕ, ◌+◌, ◌*◌, ◌/◌}
use native.Mathlib.Nat.{mul-one}
use native.Mathlib.Omega.{arith}
use Rattle.arrays.specs.Sums.{◌!◌}
use Rattle.matrices.proofs.Lengths.{row_room, rows-room}
use Rattle.matrices.specs.Products.{columns_of}
use Rattle.matrix_columns.proofs.Summed.{alike, clear-row, clear-rows, summed-none, summed-more, summed-one}
use Rattle.matrix_columns.proofs.columns.Goals as goal

pub loop-i-init : goal.loop-i-init
loop-i-init c = summed-none _ _ _ _ _ _ _ _ c.fill.ensures

pub add_four-requires-clause-four : goal.add_four-requires-clause-four
add_four-requires-clause-four c =
    let g = c.args in
    let h = rows-room (4 * c.loop-i.i) 4 g.rows g.cols (omega arith) in
    record { room = omega arith; last = omega arith; clear = λ k l. clear-rows c.requires (4 * c.loop-i.i) k (omega arith) }

pub loop-i-preserved : goal.loop-i-preserved
loop-i-preserved c =
    let i = c.loop-i.i in
    let d = c.loop-i.invariant in
    let e : 4 * i + 4 ≡ 4 * (i + 1) = omega arith in
    rw e at (summed-more (alike c.requires d) (4 * i) d c.requires.room 4 (omega arith) _ (λ k l. ap (λ (a : ℕ). c.loop-i.s ! a) (omega (arith, mul-one k))) _ c.add_four.ensures)

pub loop-i-2-init : goal.loop-i-2-init
loop-i-2-init c =
    let e : c.loop-i.i ≡ c.args.rows / 4 = omega arith in
    rw e at c.loop-i.invariant

pub add_scaled-requires : goal.add_scaled-requires
add_scaled-requires c =
    let h = c.loop-i-2-test.true in
    let l = row_room c.loop-i-2.i c.args.rows c.args.cols h in
    record { room = omega arith; first = omega arith; second = omega arith; clear = λ _ _. refl; clear2 = clear-row c.requires c.loop-i-2.i h }

pub loop-i-2-preserved : goal.loop-i-2-preserved
loop-i-2-preserved c =
    let d = c.loop-i-2.invariant in
    summed-one (alike c.requires d) c.loop-i-2.i d c.requires.room c.loop-i-2-test.true _ c.add_scaled.ensures

pub returns : goal.returns
unfolding columns_of
returns c =
    let e : c.loop-i-2.i ≡ c.args.rows = omega arith in
    (rw e at c.loop-i-2.invariant).is
