use Prim.Native.Nat.{ℕ}
use mathlib.Core.Path.{ap, ◌∙◌}
use native.Mathlib.Omega.{arith}
use Rattle.arrays.specs.Part.{put}
use Rattle.arrays.specs.Sums.{◌!◌}
use Rattle.several.proofs.Added.{added-one}
use Rattle.gram_panels.proofs.Mats.{striped-none}
use Rattle.eager_gram.proofs.Added.{entry-row-more}
use Rattle.eager_gram.proofs.one_row.Goals as goal

pub loop-r-init : goal.loop-r-init
loop-r-init c = striped-none _ _ _ _ _ _

pub loop-r-preserved : goal.loop-r-preserved
loop-r-preserved c =
    entry-row-more c.requires c.loop-r-test.true c.loop-r.invariant _
    (c.add_scaled.ensures ∙ ap (put _ _) (added-one _ _ _ _ _ _ _ _ (ap (λ (a : ℕ). c.loop-r.s ! a) (omega arith))))
