use mathlib.Core.Path.{refl}
use native.Mathlib.Omega.{arith}
use Rattle.gram_panels.proofs.Mats.{striped-none, striped-more, beyond-rows}
use Rattle.gram_panels.proofs.mirror.Goals as goal

pub loop-k-init : goal.loop-k-init
loop-k-init c = striped-none _ _ _ _ _ _

pub loop-k-preserved : goal.loop-k-preserved
loop-k-preserved c =
    striped-more c.loop-k.invariant _ _ _ (omega arith) refl (λ b m. beyond-rows c.loop-k.invariant _ (λ z l. omega arith) (omega arith))
    c.mirror_row.ensures
