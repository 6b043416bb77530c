-- Where the first value that is not finite stands, counted from i. Definitions only.
use Rattle.std.specs.Prelude.{true, false, List, [], ◌∷◌, ℕ, ◌+◌, Float, Option, None, Some}
use Rattle.std.specs.Float.Ieee.Scale.{finite}

unfoldable pub first_infinite : ℕ → List Float → Option ℕ
first_infinite i [] = None
first_infinite i (x ∷ xs) = elim (finite x) [
  | true ↦ first_infinite (i + 1) xs
  | false ↦ Some i
]
