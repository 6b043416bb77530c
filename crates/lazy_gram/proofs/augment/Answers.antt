use mathlib.Core.Path.{refl}
use Prim.Native.Nat.{◌+◌, ◌*◌}
use native.Mathlib.Omega.{arith}
use Rattle.gram_panels.proofs.Mats.{striped-none, striped-more, beyond-rows}
use Rattle.lazy_gram.proofs.augment.Goals as goal

pub loop-j-init : goal.loop-j-init
loop-j-init c = striped-none _ _ _ _ _ _

pub loop-j-preserved : goal.loop-j-preserved
loop-j-preserved c =
    let g = c.args in
    striped-more c.loop-j.invariant _ _ _ (omega arith) refl
    (λ b m. rw (beyond-rows c.loop-j.invariant (g.ga + c.loop-j.j * g.p + b) (λ z l. omega arith) (omega arith)))
    c.augment_row.ensures
