-- What the calls of each function leave together, over the store. Assumes nothing.
use mathlib.Core.Path.{◌≡◌, ap, ◌∙◌}
use mathlib.Core.List.{List}
use Prim.Native.Nat.{ℕ, ◌+◌, ◌≤◌}
use native.Mathlib.Omega.{arith}
use lib.Ieee.{Float, neg}
use Rattle.arrays.specs.Part.{part, put}
use Rattle.arrays.proofs.Part.{put-append, part-put-above}
use Rattle.arrays.specs.Vectors.{map_of, zip_of}
use Rattle.arrays.proofs.Lengths.{length-map, length-zip}
use Rattle.settings.specs.declared.Terms.{Terms}
use Rattle.layout.specs.declared.Sizes.{Sizes}
use Rattle.layout.specs.declared.Places.{Places}
use Rattle.layout.specs.Store.{upd}
use Rattle.layout.specs.Slots.{Store, ◌⟨◌≔◌⟩, Has, Laid, vars}
use Rattle.layout.proofs.Slots.{then}
use Rattle.layout.specs.Slots.{Slot.W, Slot.U, Slot.Q1, Slot.Q2, Slot.D1, Slot.D2, Slot.PRB, Slot.PRS, Slot.GRAD, Slot.XNU, Slot.Z}
use Rattle.design_products.specs.Mode.{transposed_of}
use Rattle.design_products.proofs.Lengths.{length-transposed}
use Rattle.newton.specs.Newton.{over_sum, over_difference, sum_of_squares, difference_of_squares, g1_of, g2_at, grad_of, prb_at, prs_of}
use Rattle.newton.proofs.Lengths.{length-g1, length-grad, length-prs}
use Rattle.lasso_optimizer.specs.Gradphi.{Gradphi}
use Rattle.lasso_optimizer.specs.Opening.{barrier_store, gradient_store, preconditioner_store}

-- the two halves of grad are one write: the second reads below the first
grad-joined : (p : ℕ) (lambda t : Float) (xnu q1 q2 g : ℕ) → q1 + p ≤ g → q2 + p ≤ g → (m : List Float) {m₁ m₂ : List Float}
    → m₁ ≡ put m g (map_of neg p (part m xnu p))
    → m₂ ≡ put m₁ (g + p) (zip_of (λ (a b : Float). neg (g2_at lambda t a b)) p (part m₁ q1 p) (part m₁ q2 p))
    → m₂ ≡ put m g (grad_of p lambda t (part m xnu p) (part m q1 p) (part m q2 p))
unfolding grad_of
grad-joined p lambda t xnu q1 q2 g a b m {m₁} e₁ e₂ =
    let low = map_of neg p (part m xnu p) in
    let high = zip_of (λ (a b : Float). neg (g2_at lambda t a b)) p (part m q1 p) (part m q2 p) in
    let at-q1 : part m₁ q1 p ≡ part m q1 p = rw e₁ (part-put-above m g low q1 p a) in
    let at-q2 : part m₁ q2 p ≡ part m q2 p = rw e₁ (part-put-above m g low q2 p b) in
    rw (e₂, at-q1, at-q2, e₁) (rw (length-map neg p (part m xnu p)) at (put-append m g low high))

-- the product of z is the same after the barrier's terms are written
pub after-barrier : (sh : Sizes) (tm : Terms) (d : List Float) (t : Float) (v : Store) (g : List Float) → Gradphi sh tm d v g → Gradphi sh tm d (barrier_store sh t v) g
unfolding Gradphi transposed_of barrier_store ◌⟨◌≔◌⟩ upd
after-barrier sh tm d t v g h = h

-- a copy of it
pub gradphi-copied : {sh : Sizes} {l : Places} (w : Laid sh l) (tm : Terms) (d g s : List Float) {s' : List Float} → Gradphi sh tm d (vars sh s) g
    → s' ≡ put s l.xnu (part g 0 sh.p) → s' ≡ put s l.xnu (transposed_of sh tm d (vars sh s) (part s l.z sh.k))
unfolding Gradphi
gradphi-copied {sh} {l} w tm d g s h e = rw w.at-z (e ∙ ap (put s l.xnu) h)

module _ {sh : Sizes} {l : Places} (w : Laid sh l) {e : List Float} {v : Store} {m : List Float} (h : Has sh e v m) where
  pub barrier-left : (t : Float) {m₁ m₂ m₃ m₄ : List Float}
      → m₁ ≡ put m l.q1 (zip_of over_sum sh.p (part m l.u sh.p) (part m l.w sh.p))
      → m₂ ≡ put m₁ l.q2 (zip_of over_difference sh.p (part m₁ l.u sh.p) (part m₁ l.w sh.p))
      → m₃ ≡ put m₂ l.d1 (zip_of (sum_of_squares t) sh.p (part m₂ l.q1 sh.p) (part m₂ l.q2 sh.p))
      → m₄ ≡ put m₃ l.d2 (zip_of (difference_of_squares t) sh.p (part m₃ l.q1 sh.p) (part m₃ l.q2 sh.p))
      → Has sh e (barrier_store sh t v) m₄
  unfolding barrier_store
  barrier-left t e₁ e₂ e₃ e₄ =
      let p = sh.p in
      let h₁ = then sh h Q1 (λ (u : Store). zip_of over_sum p (u U) (u W)) (length-zip _ _ _ _) (rw (w.at-q1, w.at-u, w.at-w) at e₁) in
      let h₂ = then sh h₁ Q2 (λ (u : Store). zip_of over_difference p (u U) (u W)) (length-zip _ _ _ _) (rw (w.at-q2, w.at-u, w.at-w) at e₂) in
      let h₃ = then sh h₂ D1 (λ (u : Store). zip_of (sum_of_squares t) p (u Q1) (u Q2)) (length-zip _ _ _ _) (rw (w.at-d1, w.at-q1, w.at-q2) at e₃) in
      then sh h₃ D2 (λ (u : Store). zip_of (difference_of_squares t) p (u Q1) (u Q2)) (length-zip _ _ _ _) (rw (w.at-d2, w.at-q1, w.at-q2) at e₄)

  pub gradient-left : (tm : Terms) (d : List Float) (t : Float) {m₁ m₂ m₃ m₄ : List Float}
      → m₁ ≡ put m l.xnu (transposed_of sh tm d (vars sh m) (part m l.z sh.k))
      → m₂ ≡ put m₁ l.xnu (g1_of sh.p t (part m₁ l.xnu sh.p) (part m₁ l.q1 sh.p) (part m₁ l.q2 sh.p))
      → m₃ ≡ put m₂ l.grad (map_of neg sh.p (part m₂ l.xnu sh.p))
      → m₄ ≡ put m₃ (l.grad + sh.p) (zip_of (λ (a b : Float). neg (g2_at tm.lambda t a b)) sh.p (part m₃ l.q1 sh.p) (part m₃ l.q2 sh.p))
      → Has sh e (gradient_store sh tm d t v) m₄
  unfolding gradient_store
  gradient-left tm d t {m₂ = m₂} e₁ e₂ e₃ e₄ =
      let p = sh.p in
      let h₁ = then sh h XNU (λ (u : Store). transposed_of sh tm d u (u Z)) (length-transposed _ _ _ _ _) (rw (w.at-xnu, w.at-z) at e₁) in
      let h₂ = then sh h₁ XNU (λ (u : Store). g1_of p t (u XNU) (u Q1) (u Q2)) (length-g1 _ _ _ _ _) (rw (w.at-xnu, w.at-q1, w.at-q2) at e₂) in
      let e₃₄ = grad-joined p tm.lambda t l.xnu l.q1 l.q2 l.grad (omega arith) (omega arith) m₂ e₃ e₄ in
      then sh h₂ GRAD (λ (u : Store). grad_of p tm.lambda t (u XNU) (u Q1) (u Q2)) (length-grad _ _ _ _ _ _)
      (rw (w.at-grad, w.at-xnu, w.at-q1, w.at-q2) at e₃₄)

  pub preconditioner-left : {m₁ m₂ : List Float}
      → m₁ ≡ put m l.prb (map_of prb_at sh.p (part m l.d1 sh.p))
      → m₂ ≡ put m₁ l.prs (prs_of sh.p (part m₁ l.prb sh.p) (part m₁ l.d1 sh.p) (part m₁ l.d2 sh.p))
      → Has sh e (preconditioner_store sh v) m₂
  unfolding preconditioner_store
  preconditioner-left e₁ e₂ =
      let p = sh.p in
      let h₁ = then sh h PRB (λ (u : Store). map_of prb_at p (u D1)) (length-map _ _ _) (rw (w.at-prb, w.at-d1) at e₁) in
      then sh h₁ PRS (λ (u : Store). prs_of p (u PRB) (u D1) (u D2)) (length-prs _ _ _ _) (rw (w.at-prs, w.at-prb, w.at-d1, w.at-d2) at e₂)
