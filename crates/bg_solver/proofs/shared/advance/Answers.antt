-- `bg_solver::shared::advance` meets its contract: what each write reads lies apart from those before it. Assumes nothing.
use mathlib.Core.Path.{◌≡◌, ◌∙◌}
use mathlib.Core.List.{List}
use Prim.Native.Nat.{ℕ, ◌+◌, ◌≤◌}
use native.Mathlib.Omega.{arith}
use lib.ListN.{length}
use lib.Ieee.{Float}
use Rattle.numbers.specs.Ops.{◌⊕◌, ◌⊖◌, ◌⊗◌, ◌⊘◌}
use Rattle.arrays.specs.Part.{part, put}
use Rattle.arrays.proofs.Part.{part-put-below}
use Rattle.arrays.specs.Sums.{product_of}
use Rattle.arrays.specs.Vectors.{zip_of}
use Rattle.arrays.proofs.Lengths.{length-zip}
use Rattle.bg_solver.specs.declared.shared.Seven.{Seven}
use Rattle.bg_solver.specs.Shared.{Seated, advance_mem}
use Rattle.bg_solver.proofs.shared.advance.Goals as goal

-- a part above what was made of two is as it was
above : (g : Float → Float → Float) (n : ℕ) (xs ys m m₁ : List Float) (a b : ℕ) → a + n ≤ b → m₁ ≡ put m a (zip_of g n xs ys) → part m₁ b n ≡ part m b n
above g n xs ys m m₁ a b l e =
    let below : a + length (zip_of g n xs ys) ≤ b = omega (arith, length-zip g n xs ys) in
    rw e (part-put-below m a (zip_of g n xs ys) b n below)

joined : (bknum ak : Float) {n : ℕ} {w : Seven} {m m₁ m₂ m₃ : List Float} → Seated m n w
    → ak ≡ bknum ⊘ product_of n (part m w.z n) (part m w.pp n)
    → m₁ ≡ put m w.x (zip_of (λ (v u : Float). v ⊕ ak ⊗ u) n (part m w.x n) (part m w.p n))
    → m₂ ≡ put m₁ w.r (zip_of (λ (v u : Float). v ⊖ ak ⊗ u) n (part m₁ w.r n) (part m₁ w.z n))
    → m₃ ≡ put m₂ w.rr (zip_of (λ (v u : Float). v ⊖ ak ⊗ u) n (part m₂ w.rr n) (part m₂ w.zz n))
    → m₃ ≡ advance_mem bknum n w m
unfolding advance_mem
joined bknum ak {n} {w} {m} {m₁} {m₂} h e e₁ e₂ e₃ =
    let r : part m₁ w.r n ≡ part m w.r n = above _ n _ _ m m₁ w.x w.r (omega arith) e₁ in
    let z : part m₁ w.z n ≡ part m w.z n = above _ n _ _ m m₁ w.x w.z (omega arith) e₁ in
    let rr : part m₂ w.rr n ≡ part m w.rr n =
    above _ n _ _ m₁ m₂ w.r w.rr (omega arith) e₂ ∙ above _ n _ _ m m₁ w.x w.rr (omega arith) e₁ in
    let zz : part m₂ w.zz n ≡ part m w.zz n =
    above _ n _ _ m₁ m₂ w.r w.zz (omega arith) e₂ ∙ above _ n _ _ m m₁ w.x w.zz (omega arith) e₁ in
    rw (e₃, rr, zz, e₂, r, z, e₁, e)

pub returns : goal.returns
returns c =
    joined c.args.bknum (c.args.bknum ⊘ c.product.result) c.requires (rw c.product.ensures)
    c.add_scaled.ensures c.sub_scaled.ensures c.sub_scaled-2.ensures
