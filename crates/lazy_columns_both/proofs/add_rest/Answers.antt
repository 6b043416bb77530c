use Prim.Native.Nat.{ℕ, ◌+◌, ◌-◌, ◌*◌, ◌/◌}
use mathlib.Core.Path.{◌≡◌, sym, ap}
use native.Mathlib.Omega.{arith}
use Rattle.arrays.specs.Sums.{◌!◌}
use Rattle.arrays.proofs.Turns.{made_all}
use Rattle.matrices.proofs.Lengths.{row_room}
use Rattle.lazy_normalization.proofs.Entries.{while-made}
use Rattle.lazy_columns.proofs.ColumnSums.{sums_none}
use Rattle.lazy_columns_both.specs.Both.{added_from}
use Rattle.lazy_columns_both.proofs.Both.{from_more}
use Rattle.lazy_columns_both.proofs.add_rest.Goals as goal

pub loop-i-init : goal.loop-i-init
loop-i-init c =
    let g = c.args in
    let from = 4 * (g.n / 4) in
    let none : from - from ≡ 0 = omega arith in
    (rw none (sums_none g.s.now g.out g.p _ _ (omega arith)), rw none (sums_none g.y.now 0 g.p _ _ (omega arith)))

pub entries-e-requires : goal.entries-e-requires
entries-e-requires c =
    let h = row_room _ _ c.args.p c.loop-i-test.true in
    record { row = omega arith; few = c.requires.first.columns; centres = omega arith; scales = omega arith; reciprocals = omega arith }

pub loop-i-preserved : goal.loop-i-preserved
loop-i-preserved c =
    let g = c.args in
    let i = c.loop-i.i in
    let from = 4 * (g.n / 4) in
    let d = c.loop-i.invariant in
    let few = c.requires.first.columns in
    let k : from + (i - from) ≡ i = omega arith in
    let next : i + 1 - from ≡ i - from + 1 = omega arith in (
      rw next
          (from_more g.m.now (while-made c.requires.first (omega arith) d.0) from (i - from) d.0 (omega arith) (omega arith) _ (rw k c.entries-e.ensures) few _
          (ap (λ (a : ℕ). c.loop-i.s ! (g.v + a)) (sym k)) _ c.add_scaled_from.ensures),
      rw next
          (from_more g.m.now (while-made c.requires.second (omega arith) d.0) from (i - from) d.1 (omega arith) (omega arith) _ (rw k c.entries-e.ensures) few _
          (ap (λ (a : ℕ). c.loop-i.s ! (g.w + a)) (sym k)) _ c.add_scaled_from-in-loop-i.ensures),
    )

pub returns : goal.returns
unfolding added_from
returns c =
    let e : c.loop-i.i ≡ c.args.n = omega arith in
    record { s_after = rw e at (made_all c.loop-i.invariant.0 (omega arith)); y_after = rw e at (made_all c.loop-i.invariant.1 (omega arith)) }
