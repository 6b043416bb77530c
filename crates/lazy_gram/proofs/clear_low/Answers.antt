use mathlib.Core.Path.{refl}
use native.Mathlib.Omega.{arith}
use Rattle.arrays.specs.Sums.{plus0}
use Rattle.arrays.specs.Vectors.{fill_of}
use Rattle.gram_panels.proofs.Mats.{striped-none, striped-more}
use Rattle.lazy_gram.proofs.clear_low.Goals as goal

pub loop-j-init : goal.loop-j-init
loop-j-init c = striped-none _ _ _ _ _ _

pub loop-j-preserved : goal.loop-j-preserved
unfolding fill_of
loop-j-preserved c = striped-more c.loop-j.invariant _ (λ i. plus0) _ (omega arith) refl (λ b m. refl) c.fill.ensures
