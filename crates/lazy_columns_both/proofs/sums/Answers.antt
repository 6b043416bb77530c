-- `lazy_columns_both::sums` meets its contract: sums of +0, rows by fours, and the rows that are left, for both products. Assumes nothing.
use Prim.Native.Nat.{◌*◌, ◌/◌}
use mathlib.Core.Path.{refl}
use native.Mathlib.Omega.{arith}
use Rattle.lazy_normalization.proofs.Entries.{reads_on}
use Rattle.lazy_columns_both.proofs.Both.{cleared, two-on, fours-made, rest-made, all-rows}
use Rattle.lazy_columns_both.proofs.sums.Goals as goal

pub add_fours-requires : goal.add_fours-requires
add_fours-requires c = two-on c.requires (cleared _ _ _ _ c.fill.ensures) (omega arith)

pub add_rest-requires : goal.add_rest-requires
add_rest-requires c =
    let g = c.args in
    two-on (two-on {y₁ = g.y.now} c.requires (cleared _ _ _ _ c.fill.ensures) refl) (fours-made g.m.now _ g.n g.p _ g.l g.v _ _ _ c.add_fours.ensures.s_after) (omega arith)

pub returns : goal.returns
returns c =
    let g = c.args in
    let n = 4 * (g.n / 4) in
    let d = cleared _ _ _ _ c.fill.ensures in
    let f = fours-made g.m.now _ g.n g.p n g.l g.v _ _ _ c.add_fours.ensures.s_after in
    let h = fours-made g.m.now _ g.n g.p n g.l g.w _ _ _ c.add_fours.ensures.y_after in record {
      s_after = all-rows c.requires.first d _ _ _ _ c.requires.first.room c.fill.ensures
          (rest-made g.m.now (reads_on c.requires.first d.long) f n (omega arith) _ _ _ _ (omega arith) f c.add_rest.ensures.s_after);
      y_after = all-rows c.requires.second d _ _ _ 0 (omega arith) c.fill-2.ensures
          (rest-made g.m.now (reads_on c.requires.second d.long) f n (omega arith) _ _ _ _ (omega arith) h c.add_rest.ensures.y_after);
    }
