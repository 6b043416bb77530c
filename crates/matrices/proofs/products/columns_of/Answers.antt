use Prim.Native.Nat.{ℕ, ◌+◌, ◌*◌, ◌≤◌, ◌<◌}
use mathlib.Core.Path.{◌≡◌, ap, ◌∙◌}
use mathlib.Core.List.{List}
use native.Mathlib.Omega.{arith}
use lib.Ieee.{Float, nan}
use Rattle.arrays.specs.Part.{part, tab}
use Rattle.arrays.proofs.Part.{get_or-tab}
use Rattle.arrays.specs.Sums.{◌!◌}
use Rattle.several.specs.Several.{spread_of}
use Rattle.arrays.proofs.Turns.{Made, made_none, made_more, made_all, part-kept}
use Rattle.several.proofs.Runs.{made-spread}
use Rattle.matrices.specs.Products.{column_product, columns_of}
use Rattle.matrices.proofs.products.columns_of.Goals as goal

-- the turn that writes the products of eight columns
eight-more : {s₀ : List Float} {out cols : ℕ} {s : List Float} (i : ℕ) (m : List Float) (rows v : ℕ) (t r : List Float)
    → Made s₀ out cols (column_product m rows cols (part s₀ v rows)) s (8 * i) → 8 * i + 8 ≤ cols → (out < v + rows → out + cols ≤ v)
    → t ≡ tab (λ k. column_product m rows cols (part s v rows) (8 * i + k)) 8 → r ≡ spread_of s (out + 8 * i) 1 (λ k. t ! k) 8
    → Made s₀ out cols (column_product m rows cols (part s₀ v rows)) r (8 * (i + 1))
eight-more i m rows v t r d h off sums written =
    let kept = part-kept d v rows off in
    let e : 8 * i + 8 ≡ 8 * (i + 1) = omega arith in
    rw e at (made-spread d _ 8 r written h (λ k l. ap (λ (t : List Float). t ! k) sums ∙ get_or-tab _ 8 k nan l ∙ rw kept))

pub loop-i-init : goal.loop-i-init
loop-i-init c = made_none _ _ _ _

pub loop-i-preserved : goal.loop-i-preserved
loop-i-preserved c =
    let g = c.args in
    eight-more c.loop-i.i g.m.now g.rows g.v c.eight_columns-t.result _ c.loop-i.invariant (omega arith) c.requires.off-vector
    c.eight_columns-t.ensures c.put_eight.ensures

pub loop-j-preserved : goal.loop-j-preserved
loop-j-preserved c =
    let g = c.args in
    let d = c.loop-j.invariant in
    made_more d c.column_product.result c.loop-j-test.true
    (rw (part-kept d g.v g.rows c.requires.off-vector) at c.column_product.ensures)

pub returns : goal.returns
unfolding columns_of
returns c = made_all c.loop-j.invariant (omega arith)
