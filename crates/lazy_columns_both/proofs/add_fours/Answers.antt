use Prim.Native.Nat.{◌+◌, ◌*◌, ◌/◌}
use mathlib.Core.Path.{◌≡◌}
use native.Mathlib.Omega.{arith}
use Rattle.arrays.proofs.Turns.{made_all}
use Rattle.matrices.proofs.Lengths.{rows-room}
use Rattle.lazy_normalization.proofs.Entries.{while-made}
use Rattle.lazy_columns.specs.ColumnSums.{lazy_added}
use Rattle.lazy_columns.proofs.ColumnSums.{sums_none, sums_on, four-read}
use Rattle.lazy_columns_both.proofs.add_fours.Goals as goal

pub loop-i-init : goal.loop-i-init
loop-i-init c =
    let g = c.args in
    (sums_none g.s.now g.out g.p _ _ (omega arith), sums_none g.y.now 0 g.p _ _ (omega arith))

pub add_four-requires-clause-four_add : goal.add_four-requires-clause-four_add
add_four-requires-clause-four_add c =
    let g = c.args in
    let h = rows-room (4 * c.loop-i.i) 4 g.n g.p (omega arith) in record {
      last = omega arith;
      centres = c.requires.first.centres;
      scales = c.requires.first.scales;
      reciprocals = omega arith;
      room = omega arith;
      off-columns = c.requires.first.off-columns;
      there = rw (while-made c.requires.first (omega arith) c.loop-i.invariant.0).reciprocals c.requires.there;
    }

pub loop-i-preserved : goal.loop-i-preserved
loop-i-preserved c =
    let g = c.args in
    let i = c.loop-i.i in
    let d = c.loop-i.invariant in
    let e : 4 * i + 4 ≡ 4 * (i + 1) = omega arith in (
      rw e at
          (sums_on g.m.now (while-made c.requires.first (omega arith) d.0) _ (4 * i) 4 d.0 (omega arith) (omega arith) _ (four-read c.loop-i.s g.v (4 * i) c.four_at-x.ensures) _ c.add_four.ensures.s_after),
      rw e at
          (sums_on g.m.now (while-made c.requires.second (omega arith) d.0) _ (4 * i) 4 d.1 (omega arith) (omega arith) _ (four-read c.loop-i.s g.w (4 * i) c.four_at-z.ensures) _ c.add_four.ensures.y_after),
    )

pub returns : goal.returns
unfolding lazy_added
returns c =
    let e : c.loop-i.i ≡ c.args.n / 4 = omega arith in
    record { s_after = rw e at (made_all c.loop-i.invariant.0 (omega arith)); y_after = rw e at (made_all c.loop-i.invariant.1 (omega arith)) }
