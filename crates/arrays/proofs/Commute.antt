-- A product of floats is the same either way round. Assumes nothing.
use mathlib.Core.Path.{◌≡◌, refl}
use mathlib.Core.Bool.{Bool, true, false}
use Prim.Native.Nat.{◌*◌}
use native.Mathlib.Nat.{mul_comm}
use lib.Ieee.{Float, Format, nan, inf, fin, mul, unlike, up, down}

unlike-comm : (s t : Bool) → unlike s t ≡ unlike t s
unlike-comm true true = refl
unlike-comm true false = refl
unlike-comm false true = refl
unlike-comm false false = refl

pub times-comm : (f : Format) (x y : Float) → mul f x y ≡ mul f y x
unfolding mul
times-comm f nan nan = refl
times-comm f nan (inf t) = refl
times-comm f nan (fin t n d) = refl
times-comm f (inf s) nan = refl
times-comm f (inf s) (inf t) = rw (unlike-comm s t)
times-comm f (inf s) (fin t n d) = rw (unlike-comm s t)
times-comm f (fin s m e) nan = refl
times-comm f (fin s m e) (inf t) = rw (unlike-comm s t)
times-comm f (fin s m e) (fin t n d) = rw (unlike-comm s t, mul_comm (m * up e) (n * up d), mul_comm (down e) (down d))
