-- The flags of settings are fine, and say their truth values again. Assumes nothing.
use mathlib.Core.Path.{◌≡◌, refl}
use mathlib.Core.Bool.{Bool, true, false, cond}
use Prim.Native.Nat.{ℕ, ◌+◌}
use Rattle.settings.specs.declared.Settings.{Settings}
use Rattle.sheet_header.specs.Flags.{flags_fine, normalise_in, lazy_in, flags_for}

abbrev made : Bool → Bool → ℕ
made n l = cond n 1 0 + cond l 2 0

pub flags-back : (st : Settings) → let f = flags_for st in (flags_fine f ≡ true) × (normalise_in f ≡ st.normalise) × (lazy_in f ≡ st.lazy)
flags-back st = go st.normalise st.lazy where
  go : (n l : Bool) → (flags_fine (made n l) ≡ true) × (normalise_in (made n l) ≡ n) × (lazy_in (made n l) ≡ l)
  go true true = (refl, refl, refl)
  go true false = (refl, refl, refl)
  go false true = (refl, refl, refl)
  go false false = (refl, refl, refl)
