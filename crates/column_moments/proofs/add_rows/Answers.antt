use mathlib.Core.Path.{◌≡◌, refl}
use native.Mathlib.Omega.{arith}
use Rattle.matrices.proofs.Lengths.{row_room}
use Rattle.column_moments.specs.Added.{rows_added}
use Rattle.column_moments.proofs.Pairs.{rows_none, rows_on}
use Rattle.column_moments.proofs.add_rows.Goals as goal

pub loop-i-init : goal.loop-i-init
loop-i-init c = (omega arith, rows_none _ _ _ _ _ _ (omega arith) (omega arith))

pub add_row-requires : goal.add_row-requires
add_row-requires c =
    let g = c.args in
    let h = row_room c.loop-i.i g.left g.cols c.loop-i-test.true in
    record { matrix = omega arith; few = omega arith; apart = omega arith; room = omega arith }

pub loop-i-preserved : goal.loop-i-preserved
loop-i-preserved c =
    let g = c.args in
    (omega arith, rows_on g.m.now g.at g.cols c.loop-i.i 1 c.loop-i.invariant.1 _ _ refl c.add_row.ensures)

pub returns : goal.returns
unfolding rows_added
returns c =
    let e : c.loop-i.i ≡ c.args.left = omega arith in
    rw e at c.loop-i.invariant.1.is
