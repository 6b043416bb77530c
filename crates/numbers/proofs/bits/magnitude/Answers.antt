-- `numbers::bits::magnitude` meets its contract: each return is the case that the tests before it pick. Assumes nothing.
use mathlib.Core.Path.{◌≡◌, refl, sym, subst, ap}
use Prim.Native.Nat.{ℕ, zero, suc, ◌+◌, ◌*◌}
use native.Mathlib.Nat.{zero-mul}
use native.Mathlib.Omega.{arith}
use mathlib.Core.Bool.{true, false, ◌&&◌, ◌||◌}
use lib.IntN.{pos}
use lib.Dec.{T, ltb, eqb, eqb→eq, lt→ltb}
use lib.Ieee.{Float, nan, inf, fin, binary64, up, down, neg, lt, eq, fits, of_bits}
use lib.Ieee.Back.{whole_unique}
use lib.Ieee.Fits.{and_l}
use Rattle.numbers.specs.Kinds.{under, pzero}
use Rattle.numbers.specs.Ops.{magnitude_of}
use Rattle.numbers.proofs.Sign.{lt-zero}
use Rattle.numbers.proofs.bits.magnitude.Goals as goal

below : (x : Float) → T (under x) → neg x ≡ magnitude_of x
unfolding neg magnitude_of
below nan h = refl
below (inf true) h = refl
below (inf false) h = absurd h
below (fin true m e) h = refl
below (fin false m e) h = absurd h

level : (x : Float) → T (fits binary64 x) → T (eq x pzero) → pzero ≡ magnitude_of x
unfolding eq magnitude_of fits
level nan p h = absurd h
level (inf s) p h = absurd h
level (fin s m e) p h =
    let z = eqb→eq (m * up e * 1) (0 * down e) (and_l (eqb (m * up e * 1) (0 * down e)) _ h) in
    ap magnitude_of (sym (whole_unique binary64 (fin s m e) (fin s 0 (pos 0)) s 0 p tt (refl, z) (refl, refl)))

nowhere : (a : ℕ) → ltb 0 (a + 0) ≡ false → eqb a 0 && (false || eqb a 0) ≡ false → ⊥
nowhere zero l e = subst T e tt
nowhere (suc a) l e = subst T l (lt→ltb 0 (suc a + 0) (omega arith))

above : (x : Float) → lt x pzero ≡ false → eq x pzero ≡ false → x ≡ magnitude_of x
unfolding lt eq magnitude_of
above nan l e = refl
above (inf true) l e = absurd (subst T l tt)
above (inf false) l e = refl
above (fin true m d) l e = absurd (nowhere (m * up d * 1) (rw (zero-mul (down d)) at l) (rw (zero-mul (down d)) at e))
above (fin false m d) l e = refl

pub returns-then-x : goal.returns-then-x
unfolding of_bits
returns-then-x c = below c.args.x (lt-zero c.args.x (subst T (sym c.if-x.true) tt))

pub returns-then-x-2 : goal.returns-then-x-2
unfolding of_bits
returns-then-x-2 c = level c.args.x (subst T (sym c.well_formed.0.1) tt) (subst T (sym c.if-x-2.true) tt)

pub returns : goal.returns
unfolding of_bits
returns c = above c.args.x c.if-x.false c.if-x-2.false
