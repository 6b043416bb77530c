-- The calls of `start_residuals`, of `residuals`, of `shrink` and of `gap` in a row, and what they leave together. Assumes nothing.
use mathlib.Core.Path.{◌≡◌, refl, sym, ap, ◌∙◌, fun_ext, subst}
use mathlib.Core.Bool.{Bool, true, false, cond}
use mathlib.Core.List.{List}
use Prim.Native.Nat.{◌≤◌}
use native.Mathlib.Omega.{arith}
use lib.ListN.{length}
use lib.Dec.{eqb}
use lib.Ieee.{Float, binary64, lt}
use Rattle.numbers.specs.Ops.{◌⊖◌, ◌⊗◌, ◌⊘◌}
use Rattle.numbers.specs.Constants.{two}
use Rattle.arrays.specs.Part.{part, put}
use Rattle.arrays.proofs.Part.{part-put-same}
use Rattle.arrays.specs.Sums.{norm_inf_of}
use Rattle.arrays.specs.Vectors.{map_of, zip_of}
use Rattle.arrays.proofs.Lengths.{length-map, length-zip}
use Rattle.arrays.proofs.Commute.{times-comm}
use Rattle.settings.specs.declared.Terms.{Terms}
use Rattle.layout.specs.declared.Sizes.{Sizes}
use Rattle.layout.specs.declared.Places.{Places}
use Rattle.layout.specs.Store.{upd}
use Rattle.layout.specs.Slots.{Slot, num, Store, ◌⟨◌≔◌⟩, Has, Laid, Room, vars, rest, off, words}
use Rattle.layout.proofs.Slots.{start, then, next, got}
use Rattle.layout.specs.Slots.{Slot.W, Slot.XNU, Slot.Y, Slot.Z, Slot.NU, Slot.NEWZ}
use Rattle.design_products.specs.Mode.{matvec_of, transposed_of, Held}
use Rattle.lasso_optimizer.specs.Opening.{residual_store, shrunk_store, gap_store, primal_of, dual_of, gap_of}
use Rattle.lasso_optimizer.specs.Gradphi.{Gradphi}
use Rattle.duality.specs.Gap.{DidGap, Known, start_store}
use Rattle.design_products.proofs.Lengths.{length-matvec, length-transposed}

-- where newz is known, a copy of it is what residual_store begins with
known_start : (sh : Sizes) (t : Terms) (m : List Float) (v : Store) {b : Bool} → Known sh t m b v → b ≡ true → start_store sh t m v ≡ v ⟨ Z ≔ (λ u. u NEWZ) ⟩
unfolding Known start_store ◌⟨◌≔◌⟩ upd
known_start sh t m v h q = fun_ext (λ s. go s (eqb (num s) (num Z)))
  where
    go : (s : Slot) (b : Bool)
        → cond b (zip_of (λ (a b : Float). a ⊖ b) sh.k (matvec_of sh t m v (v W)) (v Y)) (cond b (matvec_of sh t m v (v W)) (v s)) ≡ cond b (v NEWZ) (v s)
    go s true = sym (h q)
    go s false = refl

-- the product of z is the same after xnu is written, and after nu is made smaller
after-xnu : (sh : Sizes) (t : Terms) (m : List Float) (v : Store) (f : Store → List Float) (g : List Float)
    → part g 0 sh.p ≡ transposed_of sh t m v (v Z) → Gradphi sh t m (v ⟨ XNU ≔ f ⟩) g
unfolding Gradphi transposed_of ◌⟨◌≔◌⟩ upd
after-xnu sh t m v f g q = q

after-shrink : (sh : Sizes) (t : Terms) (m : List Float) (v : Store) (most : Float) (g : List Float)
    → Gradphi sh t m v g → Gradphi sh t m (shrunk_store sh t most v) g
unfolding Gradphi transposed_of shrunk_store ◌⟨◌≔◌⟩ upd
after-shrink sh t m v most g h = go (lt t.lambda most) where
  go : (b : Bool) → Gradphi sh t m (cond b (v ⟨ NU ≔ (λ u. map_of (λ (a : Float). a ⊗ (t.lambda ⊘ most)) sh.k (u NU)) ⟩) v) g
  go true = h
  go false = h

module _ {sh : Sizes} {l : Places} {m s : List Float} (h : Held sh l m s) (t : Terms) where
  pub started : {s₁ s₂ : List Float} → s₁ ≡ put s l.z (matvec_of sh t m (vars sh s) (part s l.w sh.p))
      → s₂ ≡ put s₁ l.z (zip_of (λ (a b : Float). a ⊖ b) sh.k (part s₁ l.z sh.k) (part s₁ l.y sh.k))
      → Has sh (rest sh s) (start_store sh t m (vars sh s)) s₂
  unfolding start_store words
  started q₁ q₂ =
      let w = h.room.laid in
      let h₀ = start sh s h.room.room in
      let h₁ = then sh h₀ Z (λ u. matvec_of sh t m u (u W)) (length-matvec h t _ _) (rw (w.at-z, w.at-w) at q₁) in
      then sh h₁ Z (λ u. zip_of (λ (a b : Float). a ⊖ b) sh.k (u Z) (u Y)) (length-zip _ _ _ _) (rw (w.at-z, w.at_y) at q₂)

  pub copied : {b : Bool} → Known sh t m b (vars sh s) → b ≡ true → {s₁ : List Float} → s₁ ≡ put s l.z (part s l.newz sh.k)
      → Has sh (rest sh s) (start_store sh t m (vars sh s)) s₁
  unfolding words
  copied k b q =
      let w = h.room.laid in
      let h₀ = start sh s h.room.room in
      rw (known_start sh t m (vars sh s) k b) (then sh h₀ Z (λ u. u NEWZ) (h₀.sized NEWZ) (rw (w.at-z, w.at-newz) at q))

  module _ {s₁ s₂ : List Float} (h₁ : Has sh (rest sh s) (start_store sh t m (vars sh s)) s₁)
      (q₂ : s₂ ≡ put s₁ l.nu (map_of (λ (a : Float). two ⊗ a) sh.k (part s₁ l.z sh.k))) where
    doubled : Has sh (rest sh s) (start_store sh t m (vars sh s) ⟨ NU ≔ (λ u. map_of (λ (a : Float). two ⊗ a) sh.k (u Z)) ⟩) s₂
    doubled =
        let w = h.room.laid in
        then sh h₁ NU (λ u. map_of (λ (a : Float). two ⊗ a) sh.k (u Z)) (length-map _ _ _) (rw (w.at-nu, w.at-z) at q₂)

    pub residuals-left : {s₃ : List Float} → s₃ ≡ put s₂ l.xnu (transposed_of sh t m (vars sh s₂) (part s₂ l.nu sh.k))
        → Has sh (rest sh s) (residual_store sh t m (vars sh s)) s₃
    unfolding residual_store start_store
    residuals-left q₃ =
        let w = h.room.laid in
        then sh doubled XNU (λ u. transposed_of sh t m u (u NU)) (length-transposed sh t m _ _) (rw (w.at-xnu, w.at-nu) at q₃)

    pub gradphi-made : (g₀ g : List Float) → sh.p ≤ length g₀ → g ≡ put g₀ 0 (transposed_of sh t m (vars sh s₂) (part s₂ l.z sh.k))
        → Gradphi sh t m (residual_store sh t m (vars sh s)) g
    unfolding residual_store start_store
    gradphi-made g₀ g room q =
        let w = h.room.laid in
        let first = ap (λ (x : List Float). part x 0 sh.p) q ∙ part-put-same g₀ 0 _ sh.p (length-transposed sh t m _ _) (omega arith) in
        after-xnu sh t m _ _ g (rw w.at-z at first ∙ got sh doubled (λ u. transposed_of sh t m u (u Z)))

module _ {sh : Sizes} {l : Places} {s : List Float} (h : Room sh l s) (t : Terms) (most : Float) where
  -- the code has the factor on the left
  pub shrunk : lt t.lambda most ≡ true → {s' : List Float}
      → s' ≡ put s l.nu (map_of (λ (a : Float). (t.lambda ⊘ most) ⊗ a) sh.k (part s l.nu sh.k))
      → Has sh (rest sh s) (shrunk_store sh t most (vars sh s)) s'
  unfolding shrunk_store words
  shrunk b q =
      let x = t.lambda ⊘ most in
      let turned : ◌≡◌ {A = Float → Float} (λ a. x ⊗ a) (λ a. a ⊗ x) = fun_ext (times-comm binary64 x) in
      let q₁ = rw h.laid.at-nu at q ∙ ap (λ (g : Float → Float). put s (off sh NU) (map_of g sh.k (vars sh s NU))) turned in
      rw b (then sh (start sh s h.room) NU (λ u. map_of (λ (a : Float). a ⊗ x) sh.k (u NU)) (length-map _ _ _) q₁)

  pub unshrunk : lt t.lambda most ≡ false → Has sh (rest sh s) (shrunk_store sh t most (vars sh s)) s
  unfolding shrunk_store words
  unshrunk b = rw b (start sh s h.room)

pub did-gap : {sh : Sizes} {l : Places} (w : Laid sh l) (t : Terms) {m e s₁ s₂ : List Float} {v : Store} {dual most pobj dobj : Float}
    {g : List Float} → Has sh e (residual_store sh t m v) s₁ → Gradphi sh t m (residual_store sh t m v) g → most ≡ norm_inf_of sh.p (part s₁ l.xnu sh.p)
    → Has sh (rest sh s₁) (shrunk_store sh t most (vars sh s₁)) s₂ → pobj ≡ primal_of sh t (vars sh s₂) → dobj ≡ dual_of sh dual (vars sh s₂)
    → DidGap sh t m e v dual (record { gap = pobj ⊖ dobj; dual = dobj; gradphi = g }) s₂
unfolding gap_store gap_of
did-gap {sh} w t {m} {e} {s₂ = s₂} {v = v} {dual} {most} {g = g} h₁ hg em k ep ed =
    let q = rw w.at-xnu at em ∙ got sh h₁ (λ u. norm_inf_of sh.p (u XNU)) in
    let h₂ = subst (λ (x : Float). Has sh e (shrunk_store sh t x (residual_store sh t m v)) s₂) q (next sh h₁ (shrunk_store sh t most) k) in
    let p = ep ∙ got sh h₂ (primal_of sh t) in
    let d = ed ∙ got sh h₂ (dual_of sh dual) in
    record { gap_is = rw (p, d); dual-is = d; left = h₂; gradphi-is = after-shrink sh t m (residual_store sh t m v) _ g hg }
