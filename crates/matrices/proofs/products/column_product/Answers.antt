use mathlib.Core.Path.{sym}
use native.Mathlib.Omega.{arith}
use lib.Ieee.{nan}
use Rattle.arrays.proofs.Folds.{fold-none, fold-turn}
use Rattle.arrays.proofs.Part.{get_or-part}
use Rattle.matrices.proofs.products.column_product.Goals as goal

pub loop-i-init : goal.loop-i-init
loop-i-init c = sym (fold-none _ _ _)

pub loop-i-preserved : goal.loop-i-preserved
loop-i-preserved c =
    let g = c.args in
    let e = get_or-part g.s.now g.v g.rows c.loop-i.i nan (omega arith) in
    fold-turn _ _ _ c.loop-i.i c.loop-i.t _ c.loop-i.invariant (rw e)
