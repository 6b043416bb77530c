-- Any two outcomes that the contract of `fit_sheet` permits coincide. Assumes nothing.
use Prim.Native.Nat.{ℕ}
use mathlib.Core.Path.{◌≡◌}
use mathlib.Core.List.{List}
use Rattle.sheet_fit.specs.SheetFit.{FitsSheet}

pub fit-sheet-unique : (b out : List ℕ) (k k' : ℕ) (o o' : List ℕ) → FitsSheet b out k o → FitsSheet b out k' o' → (k ≡ k') × (o ≡ o')
fit-sheet-unique b out k k' o o' h i = (cc, cc)
