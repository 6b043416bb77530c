-- A trial of the line search. Definitions only.
use Rattle.std.specs.Prelude.{cond, List, ◌*◌, Float}
use Rattle.std.specs.Float.Ieee.{lt}
use Rattle.numbers.specs.Ops.{◌⊕◌, ◌⊖◌, ◌⊗◌}
use Rattle.numbers.specs.Constants.{half}
use Rattle.arrays.specs.Part.{part}
use Rattle.arrays.specs.Sums.{dot_of, sum_of, plus0}
use Rattle.arrays.specs.Vectors.{zip_of}
use Rattle.settings.specs.declared.Terms.{Terms}
use Rattle.layout.specs.declared.Sizes.{Sizes}
use Rattle.layout.specs.Slots.{Store, ◌⟨◌≔◌⟩}
use Rattle.layout.specs.Slots.{Slot.W, Slot.U, Slot.NEWW, Slot.NEWU, Slot.F, Slot.NEWF, Slot.DXU, Slot.Y, Slot.NEWZ}
use Rattle.design_products.specs.Mode.{matvec_of}
use Rattle.line_search.specs.Search.{faces_of, largest_of, sumlogneg_of, phi_of, decreases}
use Rattle.pause.specs.Parts.{Tried, accept, halve}
use Rattle.lasso_optimizer.specs.declared.Scalars.{Scalars}
use Rattle.lasso_optimizer.specs.Data.{Data, held, stepped}

abbrev pub halved : Scalars → Scalars
halved a = stepped a (half ⊗ a.s)

-- an accepted trial renews w, u and f
unfoldable pub taken_store : Store → Store
taken_store v = v ⟨ W ≔ (λ u. u NEWW) ⟩ ⟨ U ≔ (λ u. u NEWU) ⟩ ⟨ F ≔ (λ u. u NEWF) ⟩

-- the decrease is tested
unfoldable pub decide_by : Scalars → Float → Store → Tried Data
decide_by a newphi v = cond (decreases newphi a.phi a.s a.gdx) (accept (held a (taken_store v))) (halve (held (halved a) v))

module _ (sh : Sizes) where
  -- neww, newu and newf, a step s along the direction: dx is the first half of dxu, du the second
  unfoldable pub moved_store : Float → Store → Store
  moved_store s v =
      v
      ⟨ NEWW ≔ (λ u. zip_of (λ (a d : Float). a ⊕ s ⊗ d) sh.p (u W) (part (u DXU) 0 sh.p)) ⟩
      ⟨ NEWU ≔ (λ u. zip_of (λ (a d : Float). a ⊕ s ⊗ d) sh.p (u U) (part (u DXU) sh.p sh.p)) ⟩
      ⟨ NEWF ≔ (λ u. faces_of sh.p (u NEWW) (u NEWU)) ⟩

  module _ (tm : Terms) where
    -- phi at the new weights and bounds
    unfoldable pub newphi_of : Float → Store → Float
    newphi_of t v = phi_of tm.lambda t (dot_of sh.k (v NEWZ) (v NEWZ)) (sum_of sh.p (v NEWU)) (sumlogneg_of (2 * sh.p) (v NEWF))

    module _ (m : List Float) where
      -- newz, only where the largest of newf is below 0
      unfoldable pub newz_store : Store → Store
      newz_store v =
          v
          ⟨ NEWZ ≔ (λ u. matvec_of sh tm m u (u NEWW)) ⟩
          ⟨ NEWZ ≔ (λ u. zip_of (λ (a b : Float). a ⊖ b) sh.k (u NEWZ) (u Y)) ⟩

      -- only a point inside its bounds is weighed; for any other the step is halved at once
      unfoldable pub try_by : Scalars → Float → Store → Tried Data
      try_by a largest v = cond (lt largest plus0) (decide_by a (newphi_of a.t (newz_store v)) (newz_store v)) (halve (held (halved a) v))

      -- a trial with the step that the scalars have
      unfoldable pub tries : Data → Tried Data
      tries (held a v) = try_by a (largest_of (2 * sh.p) (moved_store a.s v NEWF)) (moved_store a.s v)
