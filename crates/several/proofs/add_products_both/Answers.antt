use Prim.Native.Nat.{ℕ, ◌+◌}
use mathlib.Core.Path.{◌≡◌, refl, ap, ◌∙◌}
use native.Mathlib.Omega.{arith}
use Rattle.arrays.specs.Sums.{◌!◌}
use Rattle.arrays.proofs.Turns.{made_none, made_more, made_all}
use Rattle.several.proofs.Added.{still, added-kept, added-first, added_more}
use Rattle.several.proofs.add_products_both.Goals as goal

pub loop-j-init : goal.loop-j-init
loop-j-init c = (made_none _ _ _ _, made_none _ _ _ _)

pub loop-k-init : goal.loop-k-init
loop-k-init c =
    let at = c.loop-j in
    let e : at.j ≡ 0 + at.j = omega arith in
    (omega arith, added-first _ _ _ _ _ _ _, ap (λ (i : ℕ). at.t ! i) e ∙ added-first _ _ _ _ _ _ _)

pub loop-k-preserved : goal.loop-k-preserved
loop-k-preserved c = (omega arith, added_more _ _ _ _ _ _ _ _ _ c.loop-k.invariant.1, added_more _ _ _ _ _ _ _ _ _ c.loop-k.invariant.2)

pub loop-j-preserved : goal.loop-j-preserved
loop-j-preserved c =
    let two = c.loop-k in
    let clear = c.requires.four.clear in
    let h = c.loop-j-test.true in
    let all : two.k ≡ 4 = omega arith in
    let e : 0 + c.loop-j.j ≡ c.loop-j.j = omega arith in
    let m = c.loop-j.invariant in (
      made_more m.0 _ h (rw all at two.invariant.1 ∙ added-kept m.0 h _ _ _ (still m.0 h _ (λ _ _. refl)) _ _ _ 4 clear),
      rw e at (made_more m.1 _ h (rw all at two.invariant.2 ∙ added-kept m.0 h _ _ 0 (still m.1 h 0 (λ _ _. refl)) _ _ _ 4 clear)),
    )

pub returns : goal.returns
returns c = record { s_after = made_all c.loop-j.invariant.0 (omega arith); t_after = made_all c.loop-j.invariant.1 (omega arith) }
