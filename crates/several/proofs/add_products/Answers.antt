use mathlib.Core.Path.{◌≡◌, refl, ◌∙◌}
use native.Mathlib.Omega.{arith}
use Rattle.arrays.proofs.Turns.{made_none, made_more, made_all}
use Rattle.several.proofs.Added.{still, added-kept, added-first, added_more}
use Rattle.several.proofs.add_products.Goals as goal

pub loop-j-init : goal.loop-j-init
loop-j-init c = made_none _ _ _ _

pub loop-k-init : goal.loop-k-init
loop-k-init c = (omega arith, added-first _ _ _ _ _ _ _)

pub loop-k-preserved : goal.loop-k-preserved
loop-k-preserved c = (omega arith, added_more _ _ _ _ _ _ _ _ _ c.loop-k.invariant.1)

pub loop-j-preserved : goal.loop-j-preserved
loop-j-preserved c =
    let h = c.loop-j-test.true in
    let e : c.loop-k.k ≡ 4 = omega arith in
    made_more c.loop-j.invariant _ h (rw e at c.loop-k.invariant.1 ∙ added-kept c.loop-j.invariant h _ _ _ (still c.loop-j.invariant h _ (λ _ _. refl)) _ _ _ 4 c.requires.clear)

pub returns : goal.returns
returns c = made_all c.loop-j.invariant (omega arith)
