-- The calls of `begin` and of `turn` in a row, and what they leave together. Assumes nothing.
use mathlib.Core.Path.{◌≡◌, refl, subst, ◌∙◌}
use mathlib.Core.Bool.{Bool}
use mathlib.Core.List.{List}
use Prim.Native.Nat.{◌*◌}
use lib.Ieee.{Float}
use Rattle.numbers.specs.Ops.{◌⊕◌, ◌⊖◌, ◌⊗◌, ◌⊘◌}
use Rattle.arrays.specs.Part.{part, put}
use Rattle.arrays.specs.Sums.{product_of, norm2_of, norm_two_of}
use Rattle.arrays.specs.Vectors.{zip_of}
use Rattle.arrays.proofs.Lengths.{length-zip}
use Rattle.arrays.proofs.Norms.{norm-two}
use Rattle.matrices.specs.Products.{rows_of}
use Rattle.layout.specs.declared.Sizes.{Sizes}
use Rattle.layout.specs.declared.Places.{Places}
use Rattle.layout.specs.Store.{upd}
use Rattle.layout.specs.Slots.{Store, Has, Laid, ◌⟨◌≔◌⟩}
use Rattle.layout.proofs.Slots.{got}
use Rattle.layout.specs.Slots.{Slot.D1, Slot.D2, Slot.PRB, Slot.PRS, Slot.DXU, Slot.GRAD, Slot.R, Slot.RR, Slot.ZS, Slot.ZZ, Slot.PS, Slot.PP, Slot.GRAM}
use Rattle.bg_solver.specs.declared.shared.Turned.{Turned}
use Rattle.bg_solver.specs.Shared.{aimed, direct_mem, advance_mem, turn_by}
use Rattle.bg_solver.specs.Solver.{begun, turned, error_of}
use Rattle.inner_solver.specs.Inner.{solved_of, times_of, system_of, with_work, begin_store, bnrm_of, round_of, turn_store, turn_error, DidBegin, DidTurn}
use Rattle.inner_solver.proofs.Orders.{working, begin-order, turn-order}
use Rattle.inner_solver.proofs.Calls.{TimesMem, SolvedMem, seats, stored, solved, timed, directed, advanced}

-- what is read after the last write
module _ (v : Store) (x r rr z zz p pp a : List Float) where
  grad-kept : working v x r rr z zz p pp a GRAD ≡ v GRAD
  unfolding ◌⟨◌≔◌⟩ upd
  grad-kept = refl

  r-seen : working v x r rr z zz p pp a R ≡ r
  unfolding ◌⟨◌≔◌⟩ upd
  r-seen = refl

module _ {sh : Sizes} {l : Places} (w : Laid sh l) {e : List Float} {v : Store} {m : List Float} (h : Has sh e v m) where
  begin-chain : {m₁ m₂ m₃ m₄ : List Float} (a t r z : List Float)
      → rows_of (v GRAM) sh.p sh.p (v DXU) ≡ a → times_of sh.p (v GRAM) (v D1) (v D2) (v DXU) ≡ t
      → zip_of (λ (b c : Float). b ⊖ c) (2 * sh.p) (v GRAD) t ≡ r → solved_of sh.p (v D1) (v D2) (v PRB) (v PRS) r ≡ z
      → TimesMem sh l l.dxu l.r m m₁
      → m₂ ≡ put m₁ l.r (zip_of (λ (b c : Float). b ⊖ c) (2 * sh.p) (part m₁ l.grad (2 * sh.p)) (part m₁ l.r (2 * sh.p)))
      → m₃ ≡ put m₂ l.rr (part m₂ l.r (2 * sh.p)) → SolvedMem sh l l.r l.zs m₃ m₄
      → Has sh e (working v (v DXU) r r z (v ZZ) (v PS) (v PP) a) m₄
  unfolding ◌⟨◌≔◌⟩ upd
  begin-chain {m₄ = m₄} a t r z ea et er ez q₁ q₂ q₃ q₄ =
      let h₁ = timed w h DXU R w.at-dxu w.at-r refl refl q₁ a t ea et in
      let h₂ = stored sh h₁ R (λ u. zip_of (λ (b c : Float). b ⊖ c) (2 * sh.p) (u GRAD) (u R)) (rw (w.at-grad, w.at-r) at q₂) r er
      (rw (← er) (length-zip _ _ _ _)) in
      let h₃ = stored sh h₂ RR (λ u. u R) (rw (w.at-r, w.at-rr) at q₃) r refl (h₂.sized R) in
      let h₄ = solved w h₃ R ZS w.at-r w.at-zs refl refl q₄ z ez in
      subst (λ (u : Store). Has sh e u m₄) (begin-order v a t r z) h₄

  pub did-begin : {m₁ m₂ m₃ m₄ : List Float} {b : Float} → TimesMem sh l l.dxu l.r m m₁
      → m₂ ≡ put m₁ l.r (zip_of (λ (b c : Float). b ⊖ c) (2 * sh.p) (part m₁ l.grad (2 * sh.p)) (part m₁ l.r (2 * sh.p)))
      → m₃ ≡ put m₂ l.rr (part m₂ l.r (2 * sh.p)) → SolvedMem sh l l.r l.zs m₃ m₄ → b ≡ norm2_of (2 * sh.p) (part m₄ l.grad (2 * sh.p))
      → DidBegin sh e v b m₄
  unfolding begin_store bnrm_of with_work begun system_of
  did-begin q₁ q₂ q₃ q₄ q₅ =
      let h₄ = begin-chain _ _ _ _ refl refl refl refl q₁ q₂ q₃ q₄ in
      let n = 2 * sh.p in
      record {
        is = rw w.at-grad at q₅ ∙ got sh h₄ (λ u. norm2_of n (u GRAD)) ∙ rw (grad-kept, norm-two);
        left = h₄;
      }

  turn-chain : (first : Bool) (bkden bknum bk ak : Float) {m₁ m₂ m₃ m₄ m₅ m₆ : List Float} (zz₁ p pp a₁ z₁ a zz x r rr z : List Float)
      → product_of (2 * sh.p) (v ZS) (v RR) ⊘ bkden ≡ bk → bknum ⊘ product_of (2 * sh.p) z₁ pp ≡ ak
      → solved_of sh.p (v D1) (v D2) (v PRB) (v PRS) (v RR) ≡ zz₁
      → aimed first bk (2 * sh.p) (v PP) (v ZS) ≡ p → aimed first bk (2 * sh.p) (v PP) zz₁ ≡ pp
      → rows_of (v GRAM) sh.p sh.p p ≡ a₁ → times_of sh.p (v GRAM) (v D1) (v D2) p ≡ z₁
      → rows_of (v GRAM) sh.p sh.p pp ≡ a → times_of sh.p (v GRAM) (v D1) (v D2) pp ≡ zz
      → zip_of (λ (b c : Float). b ⊕ ak ⊗ c) (2 * sh.p) (v DXU) p ≡ x
      → zip_of (λ (b c : Float). b ⊖ ak ⊗ c) (2 * sh.p) (v R) z₁ ≡ r → zip_of (λ (b c : Float). b ⊖ ak ⊗ c) (2 * sh.p) (v RR) zz ≡ rr
      → solved_of sh.p (v D1) (v D2) (v PRB) (v PRS) r ≡ z
      → SolvedMem sh l l.rr l.zz m m₁ → m₂ ≡ direct_mem first bkden (2 * sh.p) (seats l) m₁
      → TimesMem sh l l.ps l.zs m₂ m₃ → TimesMem sh l l.pp l.zz m₃ m₄
      → m₅ ≡ advance_mem bknum (2 * sh.p) (seats l) m₄ → SolvedMem sh l l.r l.zs m₅ m₆
      → Has sh e (working v x r rr z zz p pp a) m₆
  unfolding ◌⟨◌≔◌⟩ upd
  turn-chain first bkden bknum bk ak {m₆ = m₆} zz₁ p pp a₁ z₁ a zz x r rr z eb ek e₁ ep epp ea₁ ez₁ ea ezz ex er err ez q₁ q₂ q₃ q₄ q₅ q₆ =
      let h₁ = solved w h RR ZZ w.at-rr w.at-zz refl refl q₁ zz₁ e₁ in
      let h₂ = directed w h₁ first bkden bk q₂ eb p pp ep epp in
      let h₃ = timed w h₂ PS ZS w.at_ps w.at-zs refl refl q₃ a₁ z₁ ea₁ ez₁ in
      let h₄ = timed w h₃ PP ZZ w.at-pp w.at-zz refl refl q₄ a zz ea ezz in
      let h₅ = advanced w h₄ bknum ak q₅ ek x r rr ex er err in
      let h₆ = solved w h₅ R ZS w.at-r w.at-zs refl refl q₆ z ez in
      subst (λ (u : Store). Has sh e u m₆) (turn-order v x r rr z zz p pp a zz₁ a₁ z₁) h₆

  -- bknum is of the store before the round
  first-sum : {m₁ : List Float} {t : Float} → SolvedMem sh l l.rr l.zz m m₁
      → t ≡ product_of (2 * sh.p) (part m₁ l.zs (2 * sh.p)) (part m₁ l.rr (2 * sh.p)) → t ≡ product_of (2 * sh.p) (v ZS) (v RR)
  unfolding ◌⟨◌≔◌⟩ upd
  first-sum q₁ q =
      let h₁ = solved w h RR ZZ w.at-rr w.at-zz refl refl q₁ _ refl in
      rw (w.at-zs, w.at-rr) at q ∙ got sh h₁ (λ u. product_of (2 * sh.p) (u ZS) (u RR))

  pub did-turn : {first : Bool} {bkden bnrm tol t err : Float} {ans : Turned} {m₁ m₂ m₃ m₄ m₅ m₆ : List Float}
      → SolvedMem sh l l.rr l.zz m m₁ → m₂ ≡ direct_mem first bkden (2 * sh.p) (seats l) m₁
      → t ≡ product_of (2 * sh.p) (part m₁ l.zs (2 * sh.p)) (part m₁ l.rr (2 * sh.p))
      → TimesMem sh l l.ps l.zs m₂ m₃ → TimesMem sh l l.pp l.zz m₃ m₄
      → m₅ ≡ advance_mem t (2 * sh.p) (seats l) m₄ → SolvedMem sh l l.r l.zs m₅ m₆
      → err ≡ norm_two_of (2 * sh.p) (part m₆ l.r (2 * sh.p)) ⊘ bnrm → ans ≡ turn_by tol err t
      → DidTurn sh e first bkden bnrm tol v ans m₆
  unfolding turn_store turn_error error_of round_of with_work turned system_of
  did-turn {first} {bkden} {bnrm} q₁ q₂ et q₃ q₄ q₅ q₆ ee ea =
      let t = first-sum q₁ et in
      let h₆ =
      turn-chain first bkden _ _ _ _ _ _ _ _ _ _ _ _ _ _ refl refl refl refl refl refl refl refl refl refl refl refl refl
      q₁ q₂ q₃ q₄ (rw t at q₅) q₆ in
      let r = rw w.at-r at ee ∙ got sh h₆ (λ u. norm_two_of (2 * sh.p) (u R) ⊘ bnrm) in
      record {
        is = rw (ea, r, t, r-seen);
        left = h₆;
      }
