-- Loops over a whole slice, what is read and written of a whole one, and the return of each function. Assumes nothing.
use mathlib.Core.Path.{◌≡◌, refl, sym, ap, ◌∙◌}
use mathlib.Core.Bool.{true, false}
use mathlib.Core.List.{List, ◌++◌}
use Prim.Native.Nat.{ℕ, ◌+◌, ◌≤◌, ◌<◌}
use native.Mathlib.Nat.{zero-add}
use native.Mathlib.Omega.{arith}
use lib.ListN.{length, drop}
use lib.Seq.{sets-eq}
use lib.Ieee.{Float, nan}
use Rattle.numbers.specs.Ops.{◌⊖◌, ◌⊗◌}
use Rattle.arrays.specs.Part.{part, put}
use Rattle.arrays.proofs.Part.{length_part, get_or-part, part-all, put_all}
use Rattle.arrays.specs.Sums.{◌!◌, plus0, mean_of, product_of}
use Rattle.arrays.specs.Vectors.{map_of, fill_of}
use Rattle.arrays.proofs.Lengths.{length-fill}
use Rattle.arrays.proofs.Turns.{Made, kept}
use Rattle.layout.specs.declared.Sizes.{Sizes}
use Rattle.layout.specs.declared.fit.Fit.{Fit}
use Rattle.layout.proofs.Fits.{room_of}
use Rattle.layout.specs.declared.Places.{Places}
use Rattle.layout.specs.Slots.{HasRoom, vars, rest, words}
use Rattle.layout.specs.Slots.{Slot.W}
use Rattle.ending.specs.End.{Ends, rescaled_of, weights_of, intercept_of, gone}

module _ {w₀ w : List Float} {p i : ℕ} {f : ℕ → Float} (m : Made w₀ 0 p f w i) where
  -- an element that is still to be written
  pub unwritten : i < p → w ! i ≡ w₀ ! i
  unwritten h = rw (zero-add i) at (kept m 0 h (λ l k. refl) ∙ get_or-part w₀ 0 p i nan h)

-- a slice overwritten from its start
pub wiped : (sh : Sizes) (need : ℕ) (s s' : List Float) → need ≡ words sh → need ≤ length s → s' ≡ put s 0 (fill_of plus0 need) → s' ≡ gone sh (rest sh s)
unfolding put gone
wiped sh need s s' e h q =
    let xs = fill_of plus0 need in
    let k : 0 + length xs ≡ need = omega (arith, length-fill plus0 need) in
    q ∙ sets-eq xs s 0 (omega arith) ∙ ap (λ (n : ℕ). xs ++ drop n s) k ∙ rw e

-- what a fit has and its end asks
pub ends : (f : Fit) {s ys ws : List Float} → HasRoom f.sizes s → f.sizes.n ≤ 4096 → length ys ≡ f.sizes.n → length ws ≡ f.sizes.p
    → Ends f.sizes f.places s ys ws
ends f long rows targets weights = record { room = room_of f long; rows = rows; targets = targets; weights = weights }

-- the answers: w₁ the copied weights, w₂ the rescaled, w₃ the swept
module _ (sh : Sizes) (l : Places) {s ys w₀ : List Float} (h : Ends sh l s ys w₀) where
  copied : {w₁ : List Float} → w₁ ≡ put w₀ 0 (part s l.w sh.p) → w₁ ≡ vars sh s W
  copied q =
      let e = h.room.laid.at-w in
      rw e at (q ∙ put_all w₀ (part s l.w sh.p) (length_part s l.w sh.p (omega arith) ∙ sym h.weights))

  averaged : {mu : Float} → mu ≡ mean_of sh.n (part ys 0 sh.n) → mu ≡ mean_of sh.n ys
  averaged q = q ∙ ap (mean_of sh.n) (part-all ys sh.n h.targets)

  module _ (gamma : Float) {w₁ w₂ w₃ : List Float} {mu r : Float} where
    pub plain : w₁ ≡ put w₀ 0 (part s l.w sh.p) → mu ≡ mean_of sh.n (part ys 0 sh.n) → w₂ ≡ rescaled_of false gamma sh.p w₁ w₁
        → w₃ ≡ w₂ → r ≡ mu → (w₃ ≡ weights_of sh false gamma (vars sh s)) × (r ≡ intercept_of sh false gamma ys (vars sh s))
    unfolding weights_of intercept_of rescaled_of
    plain q₁ qm q₂ q₃ qr = (q₃ ∙ q₂ ∙ ap (map_of (λ (w : Float). gamma ⊗ w) sh.p) (copied q₁), qr ∙ averaged qm)

  rescaled : (gamma : Float) {w₁ w₂ : List Float} → w₁ ≡ put w₀ 0 (part s l.w sh.p) → w₂ ≡ rescaled_of true gamma sh.p w₁ (part s l.scale sh.p)
      → w₂ ≡ weights_of sh true gamma (vars sh s)
  unfolding weights_of
  rescaled gamma q₁ q₂ =
      let d = h.room.laid.at-scale in
      rw d at (q₂ ∙ ap (λ (w : List Float). rescaled_of true gamma sh.p w (part s l.scale sh.p)) (copied q₁))

  module _ (gamma : Float) {w₁ w₂ w₃ : List Float} {mu b r : Float} where
    pub normal : w₁ ≡ put w₀ 0 (part s l.w sh.p) → mu ≡ mean_of sh.n (part ys 0 sh.n) → w₂ ≡ rescaled_of true gamma sh.p w₁ (part s l.scale sh.p)
        → length w₂ ≡ sh.p → b ≡ product_of sh.p (part w₂ 0 sh.p) (part s l.centre sh.p) → w₃ ≡ w₂ → r ≡ mu ⊖ b
        → (w₃ ≡ weights_of sh true gamma (vars sh s)) × (r ≡ intercept_of sh true gamma ys (vars sh s))
    unfolding intercept_of
    normal q₁ qm q₂ k qb q₃ qr =
        let d = h.room.laid.at-centre in
        let ew = rescaled gamma q₁ q₂ in
        let eb = rw d at (qb ∙ ap (λ (w : List Float). product_of sh.p w (part s l.centre sh.p)) (part-all w₂ sh.p k ∙ ew)) in
        (q₃ ∙ ew, qr ∙ ap (λ (x : Float). x ⊖ b) (averaged qm) ∙ ap (λ (x : Float). mean_of sh.n ys ⊖ x) eb)
