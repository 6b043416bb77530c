-- A finite value that binary64 holds is at most the largest one, by the order of the bit patterns. Assumes nothing.
use mathlib.Core.Path.{◌≡◌, refl, sym, subst, ap, ◌∙◌}
use mathlib.Core.Bool.{Bool, true, false, ◌||◌}
use Prim.Native.Nat.{◌<◌}
use native.Mathlib.Decide.{dec_lt}
use native.Mathlib.Omega.{arith}
use lib.Dec.{T, lt→ltb, lit<}
use lib.Ieee.{Float, nan, inf, fin, binary64, of_bits, to_bits, fits, lt, eq, le}
use lib.Ieee.Bits.{of_bits-to_bits}
use lib.Ieee.Scale.{finite}
use Rattle.numbers.specs.Ops.{f64}
use Rattle.numbers.proofs.Values.{Plain, plain-bits, bits_back, lt-is}
use Rattle.numbers.proofs.Extremes.{minus-le}
use Rattle.settings.specs.Settings.{largest}

largest-plain : Plain largest
unfolding of_bits fits
largest-plain = (tt, tt)

largest-itself : T (le largest largest)
unfolding of_bits le
largest-itself = tt

or_left : (a b : Bool) → T a → T (a || b)
or_left true b h = tt
or_left false b h = absurd h

-- below the largest one by its pattern, or that one itself
plain-most : (x : Float) → Plain x → T (le x largest)
unfolding le
plain-most x p = go (dec_lt (to_bits binary64 x) 0x7fef_ffff_ffff_ffff) where
  go : Dec (to_bits binary64 x < 0x7fef_ffff_ffff_ffff) → T (le x largest)
  go (yes q) =
      or_left (lt x largest) (eq x largest) (rw (lt-is x largest p largest-plain, bits_back 0x7fef_ffff_ffff_ffff (lit< tt)) (lt→ltb _ _ q))
  go (no q) =
      let e : to_bits binary64 x ≡ 0x7fef_ffff_ffff_ffff = omega (arith, plain-bits x p, q) in
      subst (λ (v : Float). T (le v largest)) (sym (ap (of_bits binary64) e) ∙ of_bits-to_bits binary64 x p.0) largest-itself

pub finite-most : (x : Float) → T (fits binary64 x) → finite x ≡ true → T (le x largest)
unfolding of_bits
finite-most nan f h = absurd (subst T (sym h) tt)
finite-most (inf s) f h = absurd (subst T (sym h) tt)
finite-most (fin true m e) f h = minus-le m e _ _ tt
finite-most (fin false m e) f h = plain-most (fin false m e) (f, tt)

-- and what lies from 0 to the largest one is finite
pub most-finite : (x : Float) → T (le (f64 0) x) → T (le x largest) → finite x ≡ true
unfolding of_bits le
most-finite nan l h = absurd h
most-finite (inf true) l h = absurd l
most-finite (inf false) l h = absurd h
most-finite (fin s m e) l h = refl
