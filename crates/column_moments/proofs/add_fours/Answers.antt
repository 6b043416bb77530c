use Prim.Native.Nat.{◌+◌, ◌*◌}
use mathlib.Core.Path.{◌≡◌}
use native.Mathlib.Omega.{arith}
use Rattle.matrices.proofs.Lengths.{rows-room}
use Rattle.column_moments.specs.Added.{rows_added}
use Rattle.column_moments.proofs.Pairs.{rows_none, rows_on}
use Rattle.column_moments.proofs.add_fours.Goals as goal

pub loop-i-init : goal.loop-i-init
loop-i-init c = (omega arith, rows_none _ _ _ _ _ _ (omega arith) (omega arith))

pub overflow_mul-i-in-loop-i : goal.overflow_mul-i-in-loop-i
overflow_mul-i-in-loop-i c =
    let g = c.args in
    omega (arith, rows-room (4 * c.loop-i.i) 4 (4 * g.q) g.cols (omega arith))

pub add_four-requires : goal.add_four-requires
add_four-requires c =
    let g = c.args in
    let h = rows-room (4 * c.loop-i.i) 4 (4 * g.q) g.cols (omega arith) in
    record { matrix = omega arith; few = omega arith; apart = omega arith; room = omega arith }

pub loop-i-preserved : goal.loop-i-preserved
loop-i-preserved c =
    let g = c.args in
    let i = c.loop-i.i in
    let e : 4 * (i + 1) ≡ 4 * i + 4 = omega arith in
    (omega arith, rw e (rows_on g.m.now 0 g.cols (4 * i) 4 c.loop-i.invariant.1 _ _ (omega arith) c.add_four.ensures))

pub returns : goal.returns
unfolding rows_added
returns c =
    let e : c.loop-i.i ≡ c.args.q = omega arith in
    rw e at c.loop-i.invariant.1.is
