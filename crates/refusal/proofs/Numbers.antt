-- Number and place determine the refusal; no number is 0; every failure ends a fit, and has no place. Assumes nothing.
use Prim.Native.Nat.{ℕ}
use mathlib.Core.Path.{◌≡◌, refl}
use mathlib.Core.Bool.{true, cond}
use native.Mathlib.Omega.{arith}
use lib.Dec.{T, eqb, ltb, ltb→lt}
use Rattle.refusal.specs.declared.Refusal.{Refusal}
use Rattle.refusal.specs.declared.Refusal.TheVariants.{Size, Length, Setting, Scratch, NotFinite, Constant, Search, Tolerance, Record, NoRounds, Version, SheetLength, Flags, Claim, Pair, TooLarge}
use Rattle.refusal.specs.declared.Failure.{Failure}
use Rattle.refusal.specs.declared.Failure.TheVariants.{Search as SearchF, Tolerance as ToleranceF}
use Rattle.refusal.specs.Refusal.{number_of, place_of, refused_by, ends_fit}

pub refusal_of : ℕ → ℕ → Refusal
refusal_of k i =
    cond (eqb k 1) Size
    (cond (eqb k 2) Length
    (cond (eqb k 3) Setting
    (cond (eqb k 4) Scratch
    (cond (eqb k 5) (NotFinite i)
    (cond (eqb k 6) (Constant i)
    (cond (eqb k 7) Search
    (cond (eqb k 8) Tolerance
    (cond (eqb k 9) Record
    (cond (eqb k 10) NoRounds
    (cond (eqb k 11) Version
    (cond (eqb k 12) SheetLength (cond (eqb k 13) Flags (cond (eqb k 14) (Claim i) (cond (eqb k 15) (Pair i) TooLarge))))))))))))))

pub refusal-back : (r : Refusal) → refusal_of (number_of r) (place_of r) ≡ r
unfolding refusal_of
refusal-back Size = refl
refusal-back Length = refl
refusal-back Setting = refl
refusal-back Scratch = refl
refusal-back (NotFinite i) = refl
refusal-back (Constant j) = refl
refusal-back Search = refl
refusal-back Tolerance = refl
refusal-back Record = refl
refusal-back NoRounds = refl
refusal-back Version = refl
refusal-back SheetLength = refl
refusal-back Flags = refl
refusal-back (Claim i) = refl
refusal-back (Pair i) = refl
refusal-back TooLarge = refl

-- EVERY FAILURE ends the fit: one that `ends_fit` left out would not be told from a refused input
pub failures-end : (f : Failure) → ends_fit (number_of (refused_by f)) ≡ true
failures-end SearchF = refl
failures-end ToleranceF = refl

-- and has no place
pub failures-placeless : (f : Failure) → place_of (refused_by f) ≡ 0
failures-placeless SearchF = refl
failures-placeless ToleranceF = refl

numbered : (r : Refusal) → T (ltb 0 (number_of r))
numbered Size = tt
numbered Length = tt
numbered Setting = tt
numbered Scratch = tt
numbered (NotFinite i) = tt
numbered (Constant j) = tt
numbered Search = tt
numbered Tolerance = tt
numbered Record = tt
numbered NoRounds = tt
numbered Version = tt
numbered SheetLength = tt
numbered Flags = tt
numbered (Claim i) = tt
numbered (Pair i) = tt
numbered TooLarge = tt

-- a refusal's number is not 0
pub not-0 : (r : Refusal) → 0 ≡ number_of r → ⊥
not-0 r e = let l = ltb→lt 0 (number_of r) (numbered r) in omega arith
