use mathlib.Core.Path.{◌≡◌, ◌∙◌}
use mathlib.Core.List.{List}
use Prim.Native.Nat.{ℕ, ◌*◌, ◌/◌, ◌≤◌}
use native.Mathlib.Nat.{mul-le-mul_right}
use native.Mathlib.Omega.{arith}
use lib.Ieee.{Float}
use Rattle.arrays.specs.Part.{put}
use Rattle.arrays.proofs.Part.{length-tab, put_all}
use Rattle.arrays.proofs.Turns.{Made, made-first, made-self, array-more, made_again, made_all}
use Rattle.prediction.specs.Predict.{predicted_of}
use Rattle.prediction.proofs.EachRow.{one, alone}
use Rattle.prediction.proofs.rows.Goals as goal

-- what `runs` wrote are the first predictions
begun : (n p : ℕ) (x w : List Float) (b : Float) (out₀ out : List Float) (e : ℕ) → 8 * e ≤ n → out ≡ put out₀ 0 (predicted_of (8 * e) p x w b)
    → Made out₀ 0 n (one p x w b) out (8 * e)
unfolding predicted_of
begun n p x w b out₀ out e h q = made-first out₀ 0 n _ out (8 * e) h q

pub runs-requires : goal.runs-requires
runs-requires c =
    let h : 8 * (c.args.n / 8) ≤ c.args.n = omega arith in
    let l = mul-le-mul_right c.args.p h in
    record { p_in_bounds = omega (arith, c.requires.x_len); w_len = c.requires.w_len; e_in_bounds = omega (arith, c.requires.out_len) }

pub loop-i-init : goal.loop-i-init
loop-i-init c =
    let g = c.args in
    made-self (begun g.n g.p g.x.now g.w.now g.b g.out.now _ _ (omega arith) c.runs.ensures)

pub loop-i-preserved : goal.loop-i-preserved
loop-i-preserved c =
    let g = c.args in
    let e = alone g.p g.x.now g.w.now g.b c.loop-i.i c.requires.w_len in
    array-more c.loop-i.invariant c.canonical.result (omega arith) (rw (c.canonical.ensures, c.product.ensures) e)

pub returns : goal.returns
unfolding predicted_of
returns c =
    let g = c.args in
    let d = begun g.n g.p g.x.now g.w.now g.b g.out.now _ _ (omega arith) c.runs.ensures in
    (made_again d _ _ (made_all c.loop-i.invariant (omega arith))).is ∙ put_all _ _ (rw length-tab (omega arith))
