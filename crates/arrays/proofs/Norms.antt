-- norm(2), whose terms are |x| times |x|, is norm2(), whose terms are x times x. Assumes nothing.
use mathlib.Core.Path.{◌≡◌, refl, ap}
use mathlib.Core.Bool.{true, false}
use mathlib.Core.List.{List}
use Prim.Native.Nat.{ℕ}
use lib.Ieee.{Float, nan, inf, fin, mul}
use Rattle.numbers.specs.Ops.{◌⊗◌, magnitude_of}
use Rattle.numbers.specs.Root.{root_of}
use Rattle.arrays.specs.Sums.{◌!◌, norm2_of, norm_two_of}
use Rattle.arrays.proofs.Folds.{fold-ext}

magnitude-square : (x : Float) → magnitude_of x ⊗ magnitude_of x ≡ x ⊗ x
unfolding mul magnitude_of
magnitude-square nan = refl
magnitude-square (inf true) = refl
magnitude-square (inf false) = refl
magnitude-square (fin true m e) = refl
magnitude-square (fin false m e) = refl

pub norm-two : (n : ℕ) (xs : List Float) → norm_two_of n xs ≡ norm2_of n xs
unfolding norm_two_of norm2_of
norm-two n xs = ap root_of (fold-ext _ _ _ _ n (λ i l. magnitude-square (xs ! i)))
