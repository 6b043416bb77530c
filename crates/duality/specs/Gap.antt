-- What the gap part may take as known, leaves and answers. Inner definitions: no promise names them.
use Rattle.std.specs.Prelude.{◌≡◌, Bool, true, List, Float}
use Rattle.numbers.specs.Ops.{◌⊖◌}
use Rattle.arrays.specs.Vectors.{zip_of}
use Rattle.settings.specs.declared.Terms.{Terms}
use Rattle.layout.specs.declared.Sizes.{Sizes}
use Rattle.layout.specs.Slots.{Store, Has, ◌⟨◌≔◌⟩}
use Rattle.layout.specs.Slots.{Slot.W, Slot.Y, Slot.Z, Slot.NEWZ}
use Rattle.design_products.specs.Mode.{matvec_of}
use Rattle.lasso_optimizer.specs.Opening.{gap_store, gap_of, dual_of}
use Rattle.lasso_optimizer.specs.Gradphi.{Gradphi}
use Rattle.duality.specs.declared.Values.{Values}

-- where b says so, newz holds the residuals of the weights, as an accepted trial leaves it
unfoldable pub Known : Sizes → Terms → List Float → Bool → Store → Type 0
Known sh tm m b v = b ≡ true → v NEWZ ≡ zip_of (λ (a b : Float). a ⊖ b) sh.k (matvec_of sh tm m v (v W)) (v Y)

-- z, as residual_store begins
unfoldable pub start_store : Sizes → Terms → List Float → Store → Store
start_store sh tm m v = v ⟨ Z ≔ (λ u. matvec_of sh tm m u (u W)) ⟩ ⟨ Z ≔ (λ u. zip_of (λ (a b : Float). a ⊖ b) sh.k (u Z) (u Y)) ⟩

pub record DidGap (sh : Sizes) (tm : Terms) (m e : List Float) (v : Store) (dual : Float) (r : Values) (s : List Float) : Type 0 where
  pub gap_is : r.gap ≡ gap_of sh tm dual (gap_store sh tm m v)
  pub dual-is : r.dual ≡ dual_of sh dual (gap_store sh tm m v)
  pub left : Has sh e (gap_store sh tm m v) s
  pub gradphi-is : Gradphi sh tm m (gap_store sh tm m v) r.gradphi
