use mathlib.Core.Path.{◌≡◌, refl, sym, ◌∙◌}
use Prim.Native.Nat.{◌+◌, ◌*◌}
use native.Mathlib.Omega.{arith}
use Rattle.matrices.proofs.Lengths.{rows-room}
use Rattle.lazy_normalization.proofs.Entries.{while-made}
use Rattle.lazy_columns.proofs.ColumnSums.{columns-none, columns-more, columns-four, columns-all}
use Rattle.lazy_columns.proofs.columns.Goals as goal
use Rattle.lazy_columns.proofs.columns.Goals.{then-all_there, else-all_there}

pub loop-i-init : goal.loop-i-init
loop-i-init c =
    let g = c.args in
    let none = columns-none g.m.now g.s.now g.n g.p g.l g.v _ _ c.fill.ensures in
    elim c.if-all_there.branch [
      | then-all_there w ↦ record { within = omega arith; there = λ _. sym c.all_there.ensures ∙ w.if-all_there.true; made = none }
      | else-all_there w ↦ record { within = omega arith; there = λ h. absurd (omega arith); made = none }
    ]

pub add_four-requires : goal.add_four-requires
add_four-requires c =
    let g = c.args in
    let h = rows-room (4 * c.loop-i.i) 4 g.n g.p (omega (arith, c.loop-i.invariant.within)) in
    record {
      last = omega arith;
      centres = omega arith;
      scales = omega arith;
      reciprocals = omega arith;
      room = omega arith;
      off-columns = c.requires.off-columns;
      there = rw (while-made c.requires (omega arith) c.loop-i.invariant.made).reciprocals (c.loop-i.invariant.there (omega arith));
    }

pub loop-i-preserved : goal.loop-i-preserved
loop-i-preserved c =
    let i = c.loop-i.i in
    let inv = c.loop-i.invariant in
    let e : 4 * i + 4 ≡ 4 * (i + 1) = omega arith in record {
      within = inv.within;
      there = inv.there;
      made = rw e at (columns-four c.requires (4 * i) inv.made _ (omega (arith, inv.within)) c.four_at-x.ensures c.add_four.ensures);
    }

pub loop-i-2-init : goal.loop-i-2-init
loop-i-2-init c =
    let e : c.loop-i.i ≡ c.if-all_there.fours = omega arith in
    rw e at c.loop-i.invariant.made

pub loop-i-2-preserved : goal.loop-i-2-preserved
loop-i-2-preserved c = columns-more c.requires c.loop-i-2.i c.loop-i-2.invariant _ c.loop-i-2-test.true c.add_row.ensures

pub augment-requires : goal.augment-requires
augment-requires c =
    record {
      room = omega arith;
      first = omega arith;
      second = omega arith;
      clear = λ _ _. refl;
      clear2 = λ l k. absurd (omega (arith, c.requires.off-vector (omega arith)));
    }

pub returns : goal.returns
returns c = columns-all c.requires c.loop-i-2.i c.loop-i-2.invariant c.args.t _ (omega arith) (omega (arith, c.loop-i.invariant.within)) c.augment.ensures
