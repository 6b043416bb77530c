-- What each call of the solver leaves, over the store: the slots that it writes, with the vectors xs, ys, .. that they get. Assumes nothing.
use mathlib.Core.Path.{◌≡◌, refl, sym, ap, ◌∙◌}
use mathlib.Core.Bool.{Bool}
use mathlib.Core.List.{List}
use Prim.Native.Nat.{ℕ, ◌*◌}
use lib.ListN.{length}
use lib.Ieee.{Float}
use Rattle.numbers.specs.Ops.{◌⊕◌, ◌⊖◌, ◌⊗◌, ◌⊘◌}
use Rattle.arrays.specs.Part.{part, put}
use Rattle.arrays.specs.Sums.{product_of}
use Rattle.arrays.specs.Vectors.{zip_of}
use Rattle.arrays.proofs.Lengths.{length-zip}
use Rattle.matrices.specs.Products.{rows_of}
use Rattle.matrices.proofs.Lengths.{length-rows}
use Rattle.layout.specs.declared.Sizes.{Sizes}
use Rattle.layout.specs.declared.Places.{Places}
use Rattle.layout.specs.Slots.{Slot, Store, Has, Laid, vars, size, off, ◌⟨◌≔◌⟩}
use Rattle.layout.proofs.Slots.{vars-of, then}
use Rattle.layout.specs.Slots.{Slot.D1, Slot.D2, Slot.PRB, Slot.PRS, Slot.DXU, Slot.R, Slot.RR, Slot.ZS, Slot.ZZ, Slot.PS, Slot.PP, Slot.ATAX, Slot.GRAM}
use Rattle.bg_solver.specs.declared.shared.Seven.{Seven}
use Rattle.bg_solver.specs.Shared.{aimed, direct_mem, advance_mem}
use Rattle.bg_solver.proofs.Lengths.{length-aimed}
use Rattle.inner_solver.specs.Inner.{solved_of, times_of}
use Rattle.inner_solver.proofs.Joins.{rows-part}
use Rattle.inner_solver.proofs.Lengths.{length-solved, length-times}

-- the places of the seven
abbrev pub seats : Places → Seven
seats l = record { x = l.dxu; r = l.r; rr = l.rr; z = l.zs; zz = l.zz; p = l.ps; pp = l.pp }

-- what `precondition` and `times` ensure of the memory m'
abbrev pub SolvedMem : Sizes → Places → ℕ → ℕ → List Float → List Float → Type 0
SolvedMem sh l b out m m' =
    let p = sh.p in
    m' ≡ put m out (solved_of p (part m l.d1 p) (part m l.d2 p) (part m l.prb p) (part m l.prs p) (part m b (2 * p)))

abbrev pub TimesMem : Sizes → Places → ℕ → ℕ → List Float → List Float → Type 0
TimesMem sh l x out m m' =
    let p = sh.p in
    m' ≡ put (put m l.atax (rows_of (part m l.gram (p * p)) p p (part m x p))) out
    (times_of p (part m l.gram (p * p)) (part m l.d1 p) (part m l.d2 p) (part m x (2 * p)))

-- one write of what f makes of the vectors in memory
pub stored : (sh : Sizes) {e : List Float} {v : Store} {m m' : List Float} → Has sh e v m → (out : Slot) (f : Store → List Float)
    → m' ≡ put m (off sh out) (f (vars sh m)) → (xs : List Float) → f v ≡ xs → length xs ≡ size sh out → Has sh e (v ⟨ out ≔ (λ u. xs) ⟩) m'
stored sh {m = m} h out f q xs ex lx = then sh h out (λ u. xs) lx (q ∙ ap (λ (u : Store). put m (off sh out) (f u)) (vars-of sh h) ∙ ap (put m (off sh out)) ex)

module _ {sh : Sizes} {l : Places} (w : Laid sh l) {e : List Float} {v : Store} {m m' : List Float} (h : Has sh e v m) where
  pub solved : (b out : Slot) {b₀ out₀ : ℕ} → b₀ ≡ off sh b → out₀ ≡ off sh out → size sh b ≡ 2 * sh.p → size sh out ≡ 2 * sh.p
      → SolvedMem sh l b₀ out₀ m m'
      → (xs : List Float) → solved_of sh.p (v D1) (v D2) (v PRB) (v PRS) (v b) ≡ xs → Has sh e (v ⟨ out ≔ (λ u. xs) ⟩) m'
  solved b out eb eo sb so q xs ex =
      let f : Store → List Float = λ u. solved_of sh.p (u D1) (u D2) (u PRB) (u PRS) (u b) in
      let q₁ : m' ≡ put m (off sh out) (f (vars sh m)) = rw (sb, ← eb, ← eo, ← w.at-d1, ← w.at-d2, ← w.at-prb, ← w.at-prs) q in
      stored sh h out f q₁ xs ex (rw (← ex) (length-solved _ _ _ _ _ _ ∙ sym so))

  pub timed : (x out : Slot) {x₀ out₀ : ℕ} → x₀ ≡ off sh x → out₀ ≡ off sh out → size sh x ≡ 2 * sh.p → size sh out ≡ 2 * sh.p
      → TimesMem sh l x₀ out₀ m m'
      → (xs ys : List Float) → rows_of (v GRAM) sh.p sh.p (v x) ≡ xs → times_of sh.p (v GRAM) (v D1) (v D2) (v x) ≡ ys
      → Has sh e (v ⟨ ATAX ≔ (λ u. xs) ⟩ ⟨ out ≔ (λ u. ys) ⟩) m'
  timed x out eb eo sb so q xs ys ex ey =
      let f : Store → List Float = λ u.
      put (put m (off sh ATAX) (rows_of (u GRAM) sh.p sh.p (u x))) (off sh out) (times_of sh.p (u GRAM) (u D1) (u D2) (u x)) in
      let q₁ : m' ≡ f (vars sh m) = rw (sb, ← eb, ← eo, ← w.at-d1, ← w.at-d2, ← w.at-gram, ← w.at-atax, ← rows-part) q in
      let h₁ = then sh h ATAX (λ u. xs) (rw (← ex) (length-rows _ _ _ _)) refl in
      then sh h₁ out (λ u. ys) (rw (← ey) (length-times _ _ _ _ _ ∙ sym so)) (q₁ ∙ ap f (vars-of sh h) ∙ rw (ex, ey))

  pub directed : (first : Bool) (bkden bk : Float) → m' ≡ direct_mem first bkden (2 * sh.p) (seats l) m
      → product_of (2 * sh.p) (v ZS) (v RR) ⊘ bkden ≡ bk
      → (xs ys : List Float) → aimed first bk (2 * sh.p) (v PP) (v ZS) ≡ xs → aimed first bk (2 * sh.p) (v PP) (v ZZ) ≡ ys
      → Has sh e (v ⟨ PS ≔ (λ u. xs) ⟩ ⟨ PP ≔ (λ u. ys) ⟩) m'
  unfolding direct_mem
  directed first bkden bk q eb xs ys ex ey =
      let n = 2 * sh.p in
      let g : Store → Float = λ u. product_of n (u ZS) (u RR) ⊘ bkden in
      let f : Store → List Float = λ u.
      put (put m (off sh PS) (aimed first (g u) n (u PP) (u ZS))) (off sh PP) (aimed first (g u) n (u PP) (u ZZ)) in
      let q₁ : m' ≡ f (vars sh m) = rw (w.at-rr, w.at-zs, w.at-zz, w.at_ps, w.at-pp) at q in
      let h₁ = then sh h PS (λ u. xs) (rw (← ex) (length-aimed first bk n (v PP) (v ZS) (h.sized ZS))) refl in
      then sh h₁ PP (λ u. ys) (rw (← ey) (length-aimed first bk n (v PP) (v ZZ) (h.sized ZZ))) (q₁ ∙ ap f (vars-of sh h) ∙ rw (eb, ex, ey))

  pub advanced : (bknum ak : Float) → m' ≡ advance_mem bknum (2 * sh.p) (seats l) m
      → bknum ⊘ product_of (2 * sh.p) (v ZS) (v PP) ≡ ak
      → (xs ys zs : List Float) → zip_of (λ (a b : Float). a ⊕ ak ⊗ b) (2 * sh.p) (v DXU) (v PS) ≡ xs
      → zip_of (λ (a b : Float). a ⊖ ak ⊗ b) (2 * sh.p) (v R) (v ZS) ≡ ys → zip_of (λ (a b : Float). a ⊖ ak ⊗ b) (2 * sh.p) (v RR) (v ZZ) ≡ zs
      → Has sh e (v ⟨ DXU ≔ (λ u. xs) ⟩ ⟨ R ≔ (λ u. ys) ⟩ ⟨ RR ≔ (λ u. zs) ⟩) m'
  unfolding advance_mem
  advanced bknum ak q ea xs ys zs ex ey ez =
      let n = 2 * sh.p in
      let g : Store → Float = λ u. bknum ⊘ product_of n (u ZS) (u PP) in
      let f : Store → List Float = λ u.
      put (put (put m (off sh DXU) (zip_of (λ (a b : Float). a ⊕ g u ⊗ b) n (u DXU) (u PS)))
      (off sh R) (zip_of (λ (a b : Float). a ⊖ g u ⊗ b) n (u R) (u ZS))) (off sh RR) (zip_of (λ (a b : Float). a ⊖ g u ⊗ b) n (u RR) (u ZZ)) in
      let q₁ : m' ≡ f (vars sh m) = rw (w.at-dxu, w.at-r, w.at-rr, w.at-zs, w.at-zz, w.at_ps, w.at-pp) at q in
      let h₁ = then sh h DXU (λ u. xs) (rw (← ex) (length-zip _ n _ _)) refl in
      let h₂ = then sh h₁ R (λ u. ys) (rw (← ey) (length-zip _ n _ _)) refl in
      then sh h₂ RR (λ u. zs) (rw (← ez) (length-zip _ n _ _)) (q₁ ∙ ap f (vars-of sh h) ∙ rw (ea, ex, ey, ez))
