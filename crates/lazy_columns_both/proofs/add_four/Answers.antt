use mathlib.Core.Path.{◌≡◌, refl, sym, ap, ◌∙◌}
use native.Mathlib.Omega.{arith}
use Rattle.arrays.specs.Part.{put}
use Rattle.arrays.proofs.Folds.{fold-none, fold-turn}
use Rattle.arrays.proofs.Turns.{made_none, made_all}
use Rattle.lazy_columns.proofs.ColumnSums.{four-more, four-first, four-all}
use Rattle.lazy_columns_both.proofs.add_four.Goals as goal

pub loop-j-init : goal.loop-j-init
loop-j-init c = (made_none _ _ _ _, made_none _ _ _ _)

pub loop-k-init : goal.loop-k-init
loop-k-init c = (sym (fold-none _ _ _), sym (fold-none _ _ _))

pub loop-k-preserved : goal.loop-k-preserved
loop-k-preserved c = (fold-turn _ _ _ _ _ _ c.loop-k.invariant.0 refl, fold-turn _ _ _ _ _ _ c.loop-k.invariant.1 refl)

pub loop-j-preserved : goal.loop-j-preserved
loop-j-preserved c =
    let two = c.loop-k in
    let g = c.args in
    let h = c.loop-j-test.true in
    let e : two.k ≡ 4 = omega arith in (
      four-more c.requires.four_add g.x c.loop-j.invariant.0 h c.loop-j.invariant.0 (rw e at two.invariant.0),
      four-first c.requires.four_add g.z c.loop-j.invariant.0 h c.loop-j.invariant.1 (rw e at two.invariant.1),
    )

pub returns : goal.returns
returns c =
    let inv = c.loop-j.invariant in record {
      s_after = made_all inv.0 (omega arith) ∙ ap (put _ _) (four-all c.requires.four_add c.args.x _ _);
      y_after = made_all inv.1 (omega arith) ∙ ap (put _ _) (four-all c.requires.four_add c.args.z _ _);
    }
