-- The gap part's second product, which the Newton part begins with. Inner definition: no promise names it.
use Rattle.std.specs.Prelude.{◌≡◌, List, Float}
use Rattle.arrays.specs.Part.{part}
use Rattle.settings.specs.declared.Terms.{Terms}
use Rattle.layout.specs.declared.Sizes.{Sizes}
use Rattle.layout.specs.Slots.{Store, Slot.Z}
use Rattle.design_products.specs.Mode.{transposed_of}

-- g begins with gradphi, the transposed design times z
unfoldable pub Gradphi : Sizes → Terms → List Float → Store → List Float → Type 0
Gradphi sh tm m v g = part g 0 sh.p ≡ transposed_of sh tm m v (v Z)
