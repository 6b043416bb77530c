-- `bg_solver::shared::direct` meets its contract: what the second write reads lies apart from the first. Assumes nothing.
use mathlib.Core.Path.{◌≡◌}
use mathlib.Core.Bool.{true, false}
use mathlib.Core.List.{List}
use Prim.Native.Nat.{ℕ, ◌+◌, ◌≤◌}
use native.Mathlib.Omega.{arith}
use lib.ListN.{length}
use lib.Ieee.{Float}
use Rattle.numbers.specs.Ops.{◌⊕◌, ◌⊗◌, ◌⊘◌}
use Rattle.arrays.specs.Part.{part, put}
use Rattle.arrays.proofs.Part.{part-put-above, part-put-below}
use Rattle.arrays.specs.Sums.{product_of}
use Rattle.arrays.specs.Vectors.{zip_of}
use Rattle.arrays.proofs.Lengths.{length-zip}
use Rattle.bg_solver.specs.declared.shared.Seven.{Seven}
use Rattle.bg_solver.specs.Shared.{Seated, direct_mem}
use Rattle.bg_solver.proofs.shared.direct.Goals as goal

module _ (bkden : Float) {n : ℕ} {w : Seven} {m m₁ m₂ : List Float} (h : Seated m n w) where
  first_round : m₁ ≡ put m w.p (part m w.z n) → m₂ ≡ put m₁ w.pp (part m₁ w.zz n) → m₂ ≡ direct_mem true bkden n w m
  unfolding direct_mem
  first_round e₁ e₂ =
      let zz : part m₁ w.zz n ≡ part m w.zz n = rw e₁ (part-put-above m w.p (part m w.z n) w.zz n h.zz-p) in
      rw (e₂, zz, e₁)

  later-round : (bk : Float) → bk ≡ product_of n (part m w.z n) (part m w.rr n) ⊘ bkden
      → m₁ ≡ put m w.p (zip_of (λ (v u : Float). bk ⊗ v ⊕ u) n (part m w.pp n) (part m w.z n))
      → m₂ ≡ put m₁ w.pp (zip_of (λ (v u : Float). bk ⊗ v ⊕ u) n (part m₁ w.pp n) (part m₁ w.zz n)) → m₂ ≡ direct_mem false bkden n w m
  unfolding direct_mem
  later-round bk e e₁ e₂ =
      let new = zip_of (λ (v u : Float). bk ⊗ v ⊕ u) n (part m w.pp n) (part m w.z n) in
      let zz : part m₁ w.zz n ≡ part m w.zz n = rw e₁ (part-put-above m w.p new w.zz n h.zz-p) in
      let below : w.p + length new ≤ w.pp = omega (arith, length-zip (λ (v u : Float). bk ⊗ v ⊕ u) n (part m w.pp n) (part m w.z n)) in
      let pp : part m₁ w.pp n ≡ part m w.pp n = rw e₁ (part-put-below m w.p new w.pp n below) in
      rw (e₂, pp, zz, e₁, e)

pub returns-then-first : goal.returns-then-first
returns-then-first c = (rw c.if-first.true (first_round c.args.bkden c.requires c.copy.ensures c.copy-then-first.ensures), c.product-bknum.ensures)

pub returns : goal.returns
returns c =
    let e = c.product-bknum.ensures in (
      rw c.if-first.false (later-round c.args.bkden c.requires (c.product-bknum.result ⊘ c.args.bkden) (rw e)
          c.scale_add.ensures c.scale_add-2.ensures),
      e,
    )
