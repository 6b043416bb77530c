-- The trials over the store are the search of optimize. Assumes nothing.
use mathlib.Core.Path.{◌≡◌, refl}
use mathlib.Core.Bool.{Bool, true, false, ◌&&◌, cond}
use mathlib.Core.List.{List}
use Prim.Native.Nat.{ℕ, zero, suc, ◌+◌, ◌*◌}
use lib.Ieee.{Float, lt}
use Rattle.refusal.specs.declared.Failure.{Failure}
use Rattle.refusal.specs.declared.Failure.TheVariants.{Search}
use Rattle.numbers.specs.Ops.{◌⊗◌}
use Rattle.numbers.specs.Constants.{half}
use Rattle.arrays.specs.Part.{part}
use Rattle.arrays.specs.Sums.{plus0}
use Rattle.settings.specs.declared.Terms.{Terms}
use Rattle.layout.specs.declared.Sizes.{Sizes}
use Rattle.layout.specs.Store.{upd}
use Rattle.layout.specs.Slots.{Store, ◌⟨◌≔◌⟩}
use Rattle.layout.specs.Slots.{Slot.W, Slot.U, Slot.F, Slot.NEWF, Slot.DXU, Slot.Y}
use Rattle.design_products.specs.Mode.{matvec_of}
use Rattle.line_search.specs.Search.{faces_of, largest_of, sumlogneg_of, phi_of, decreases}
use Rattle.pause.specs.Progress.{Progress, over, going}
use Rattle.pause.specs.Parts.{Tried, accept, halve, trial+, failed, End, end}
use Rattle.pause.specs.Unbroken.{Reached, reached, line_search}
use Rattle.lasso_optimizer.specs.declared.Scalars.{Scalars}
use Rattle.lasso_optimizer.specs.Data.{Data, held, store_of, stepped}
use Rattle.lasso_optimizer.specs.Trial.{taken_store, decide_by, moved_store, newphi_of, newz_store, try_by, tries}
use Rattle.lasso_optimizer.specs.Fit.{parts}
use Rattle.smartcore.specs.LassoOptimizer.{sumlogneg, Searched, accepted, exceeded, search}
use Rattle.unbroken_fit.proofs.Solver.{Fixed, fixed_in, count}

-- what a round leaves to the next
pub record Left : Type 0 where
  pub w : List Float
  pub u : List Float
  pub f : List Float
  pub dxu : List Float
  pub fixed : Fixed

abbrev pub left_in : Store → Left
left_in v = record { w = v W; u = v U; f = v F; dxu = v DXU; fixed = fixed_in v }

-- one choice by two tests in a row, another by both at once
both : {O X : Type 0} (Rel : O → X → Type 0) (b₁ b₂ : Bool) (o₁ o₂ o₃ : O) (x₁ x₂ : X) → Rel o₁ x₁ → Rel o₂ x₂ → Rel o₃ x₂
    → Rel (cond b₁ (cond b₂ o₁ o₂) o₃) (elim (b₁ && b₂) [
      | true ↦ x₁
      | false ↦ x₂
    ])
both Rel true true o₁ o₂ o₃ x₁ x₂ p q r = p
both Rel true false o₁ o₂ o₃ x₁ x₂ p q r = q
both Rel false b₂ o₁ o₂ o₃ x₁ x₂ p q r = r

-- the search, of the variables in the store
abbrev pub search_in : Sizes → Terms → List Float → Scalars → Store → ℕ → ℕ → Float → Searched
search_in sh tm m a v =
    search sh.k sh.p (v Y) tm.lambda (matvec_of sh tm m v) (v W) (v U) (part (v DXU) 0 sh.p) (part (v DXU) sh.p sh.p) a.t a.phi a.gdx

module _ (sh : Sizes) (tm : Terms) (tol : Float) (m : List Float) (r k : ℕ) (a : Scalars) where
  pub record SearchedTo (o : Progress (End Failure Data) (Reached Data)) (left : Left) (s : Float) (trials : ℕ) : Type 0 where
    pub store : Store
    pub is : o ≡ going (reached (count r k trials) (held (stepped a s) store))
    pub at : left_in store ≡ left

  pub record Exceeded (fixed : Fixed) (o : Progress (End Failure Data) (Reached Data)) (trials : ℕ) : Type 0 where
    pub last : Data
    pub is : o ≡ over (end (failed Search) (count r k trials) last)
    pub same : fixed_in (store_of last) ≡ fixed

  abbrev pub SearchedBy : List Float → Fixed → Progress (End Failure Data) (Reached Data) → Searched → Type 0
  SearchedBy dxu fixed o (accepted s neww newu newf trials) = SearchedTo o (record { w = neww; u = newu; f = newf; dxu = dxu; fixed = fixed }) s trials
  SearchedBy dxu fixed o (exceeded trials) = Exceeded fixed o trials

  abbrev After : List Float → Fixed → ℕ → ℕ → Tried Data → Searched → Type 0
  After dxu fixed f j o x =
      SearchedBy dxu fixed
      (elim o [
        | accept t ↦ going (reached (trial+ (count r k j)) t)
        | halve t ↦ line_search (parts sh tm tol m) f (reached (trial+ (count r k j)) t)
      ])
      x

  pub search-loop : (f j : ℕ) (s : Float) (v : Store)
      → SearchedBy (v DXU) (fixed_in v) (line_search (parts sh tm tol m) f (reached (count r k j) (held (stepped a s) v)))
      (search_in sh tm m a v f j s)
  unfolding line_search search parts tries try_by decide_by moved_store newz_store newphi_of taken_store matvec_of faces_of largest_of sumlogneg_of sumlogneg phi_of decreases trial+ ◌⟨◌≔◌⟩ upd
  search-loop zero j s v = record { last = held (stepped a s) v; is = refl; same = refl }
  search-loop (suc f) j s v =
      let v₁ = moved_store sh s v in
      let v₂ = newz_store sh tm m v₁ in
      both (After (v DXU) (fixed_in v) f j) (lt (largest_of (2 * sh.p) (v₁ NEWF)) plus0) (decreases (newphi_of sh tm a.t v₂) a.phi s a.gdx)
      (accept (held (stepped a s) (taken_store v₂))) (halve (held (stepped a (half ⊗ s)) v₂)) (halve (held (stepped a (half ⊗ s)) v₁)) _ _
      (record { store = taken_store v₂; is = refl; at = refl })
      (search-loop f (j + 1) (half ⊗ s) v₂)
      (search-loop f (j + 1) (half ⊗ s) v₁)
