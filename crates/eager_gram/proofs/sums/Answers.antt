use mathlib.Core.Path.{◌≡◌}
use Prim.Native.Nat.{◌+◌, ◌*◌}
use native.Mathlib.Omega.{arith}
use Rattle.matrices.proofs.Lengths.{rows-room}
use Rattle.eager_gram.proofs.Added.{summed-none, summed-more, summed-all}
use Rattle.eager_gram.proofs.sums.Goals as goal

pub loop-i-init : goal.loop-i-init
loop-i-init c = summed-none c.requires

pub four_rows-requires : goal.four_rows-requires
four_rows-requires c =
    let h = rows-room (4 * c.loop-i.i) 4 c.args.n c.args.p (omega arith) in
    record { above = omega arith; room = omega arith }

pub loop-i-preserved : goal.loop-i-preserved
loop-i-preserved c =
    let e : 4 * c.loop-i.i + 4 ≡ 4 * (c.loop-i.i + 1) = omega arith in
    rw e at (summed-more c.requires c.loop-i.invariant 4 (omega arith) c.four_rows.ensures)

pub loop-i-2-preserved : goal.loop-i-2-preserved
loop-i-2-preserved c = summed-more c.requires c.loop-i-2.invariant 1 (omega arith) c.one_row.ensures

pub returns : goal.returns
returns c = summed-all c.requires c.loop-i-2.invariant (omega arith)
