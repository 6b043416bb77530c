use mathlib.Core.Path.{◌≡◌, refl, sym, ap, ◌∙◌}
use native.Mathlib.Omega.{arith}
use Rattle.arrays.specs.Part.{put}
use Rattle.arrays.proofs.Folds.{fold-none, fold-turn}
use Rattle.arrays.proofs.Turns.{made_none, made_all}
use Rattle.lazy_columns.proofs.ColumnSums.{four-more, four-all}
use Rattle.lazy_columns.proofs.add_four.Goals as goal

pub loop-j-init : goal.loop-j-init
loop-j-init c = made_none _ _ _ _

pub loop-k-init : goal.loop-k-init
loop-k-init c = sym (fold-none _ _ _)

pub loop-k-preserved : goal.loop-k-preserved
loop-k-preserved c = fold-turn _ _ _ _ _ _ c.loop-k.invariant refl

pub loop-j-preserved : goal.loop-j-preserved
loop-j-preserved c =
    let e : c.loop-k.k ≡ 4 = omega arith in
    four-more c.requires c.args.x c.loop-j.invariant c.loop-j-test.true c.loop-j.invariant (rw e at c.loop-k.invariant)

pub returns : goal.returns
returns c = made_all c.loop-j.invariant (omega arith) ∙ ap (put _ _) (four-all c.requires c.args.x _ _)
