-- The calls of `move_on`, `residuals` and `take` in a row, and what they leave together. Assumes nothing.
use mathlib.Core.Path.{◌≡◌, ◌∙◌}
use mathlib.Core.List.{List}
use Prim.Native.Nat.{◌+◌, ◌*◌}
use native.Mathlib.Nat.{add-zero}
use native.Mathlib.Omega.{arith}
use lib.Ieee.{Float}
use Rattle.numbers.specs.Ops.{◌⊕◌, ◌⊖◌, ◌⊗◌}
use Rattle.arrays.specs.Part.{part, put}
use Rattle.arrays.proofs.Part.{part-part}
use Rattle.arrays.specs.Vectors.{zip_of}
use Rattle.arrays.proofs.Lengths.{length-zip}
use Rattle.settings.specs.declared.Terms.{Terms}
use Rattle.layout.specs.declared.Sizes.{Sizes}
use Rattle.layout.specs.declared.Places.{Places}
use Rattle.layout.specs.Slots.{Store, Has, Laid, vars}
use Rattle.layout.proofs.Slots.{then}
use Rattle.layout.specs.Slots.{Slot.W, Slot.U, Slot.NEWW, Slot.NEWU, Slot.F, Slot.NEWF, Slot.DXU, Slot.Y, Slot.NEWZ}
use Rattle.design_products.specs.Mode.{matvec_of, Held}
use Rattle.design_products.proofs.Lengths.{length-matvec}
use Rattle.line_search.specs.Search.{faces_of}
use Rattle.line_search.proofs.Lists.{length-faces}
use Rattle.lasso_optimizer.specs.Trial.{moved_store, newz_store, taken_store}

module _ {sh : Sizes} {l : Places} (w : Laid sh l) {e : List Float} {v : Store} {m : List Float} (h : Has sh e v m) where
  pub moved : (s : Float) {m₁ m₂ m₃ : List Float}
      → m₁ ≡ put m l.neww (zip_of (λ (a d : Float). a ⊕ s ⊗ d) sh.p (part m l.w sh.p) (part m l.dxu sh.p))
      → m₂ ≡ put m₁ l.newu (zip_of (λ (a d : Float). a ⊕ s ⊗ d) sh.p (part m₁ l.u sh.p) (part m₁ (l.dxu + sh.p) sh.p))
      → m₃ ≡ put m₂ l.newf (faces_of sh.p (part m₂ l.neww sh.p) (part m₂ l.newu sh.p))
      → Has sh e (moved_store sh s v) m₃
  unfolding moved_store
  moved s {m₁} q₁ q₂ q₃ =
      let p = sh.p in
      let dx : part (part m (14 * p) (2 * p)) 0 p ≡ part m (14 * p) p = part-part m (14 * p) (2 * p) 0 p (omega arith) ∙ rw add-zero in
      let du : part (part m₁ (14 * p) (2 * p)) p p ≡ part m₁ (14 * p + p) p = part-part m₁ (14 * p) (2 * p) p p (omega arith) in
      let h₁ =
      then sh h NEWW (λ u. zip_of (λ (a d : Float). a ⊕ s ⊗ d) p (u W) (part (u DXU) 0 p)) (length-zip _ _ _ _)
      (rw (w.at-neww, w.at-w, w.at-dxu, ← dx) at q₁) in
      let h₂ =
      then sh h₁ NEWU (λ u. zip_of (λ (a d : Float). a ⊕ s ⊗ d) p (u U) (part (u DXU) p p)) (length-zip _ _ _ _)
      (rw (w.at-newu, w.at-u, w.at-dxu, ← du) at q₂) in
      then sh h₂ NEWF (λ u. faces_of p (u NEWW) (u NEWU)) (length-faces _ _ _) (rw (w.at-newf, w.at-neww, w.at-newu) at q₃)

  pub taken : {m₁ m₂ m₃ : List Float} → m₁ ≡ put m l.w (part m l.neww sh.p) → m₂ ≡ put m₁ l.u (part m₁ l.newu sh.p)
      → m₃ ≡ put m₂ l.f (part m₂ l.newf (2 * sh.p)) → Has sh e (taken_store v) m₃
  unfolding taken_store
  taken q₁ q₂ q₃ =
      let h₁ = then sh h W (λ u. u NEWW) (h.sized NEWW) (rw (w.at-w, w.at-neww) at q₁) in
      let h₂ = then sh h₁ U (λ u. u NEWU) (h₁.sized NEWU) (rw (w.at-u, w.at-newu) at q₂) in
      then sh h₂ F (λ u. u NEWF) (h₂.sized NEWF) (rw (w.at_f, w.at-newf) at q₃)

module _ {sh : Sizes} {l : Places} {e : List Float} {v : Store} {x m : List Float} (g : Held sh l x m) (h : Has sh e v m) where
  pub renewed : (t : Terms) {m₁ m₂ : List Float} → m₁ ≡ put m l.newz (matvec_of sh t x (vars sh m) (part m l.neww sh.p))
      → m₂ ≡ put m₁ l.newz (zip_of (λ (a b : Float). a ⊖ b) sh.k (part m₁ l.newz sh.k) (part m₁ l.y sh.k))
      → Has sh e (newz_store sh t x v) m₂
  unfolding newz_store
  renewed t q₁ q₂ =
      let w = g.room.laid in
      let h₁ = then sh h NEWZ (λ u. matvec_of sh t x u (u NEWW)) (length-matvec g t _ _) (rw (w.at-newz, w.at-neww) at q₁) in
      then sh h₁ NEWZ (λ u. zip_of (λ (a b : Float). a ⊖ b) sh.k (u NEWZ) (u Y)) (length-zip _ _ _ _) (rw (w.at-newz, w.at_y) at q₂)
