use Rattle.std.proofs.Common.{◌≡◌, ℕ, ◌+◌, ◌<◌, ◌≤◌, List, length, get_or, set, sym, refl, ◌∙◌, add-one, arith, length-set, take_all, take-suc, take-suc-set}
use mathlib.Core.List.{map-append}
use lib.Ieee.{Float, binary64, of_bits}
use Rattle.stored.specs.Stored.{numbers_of}
use Rattle.stored.proofs.bits.load.Invariants.{Loading}
use Rattle.stored.proofs.bits.load.Goals as goal

module _ {w : List ℕ} {out : List Float} {i : ℕ} (d : Loading w out i) where
  turn : (x : Float) → i < length w → x ≡ of_bits binary64 (get_or w i 0) → Loading w (set out i x) (i + 1)
  unfolding numbers_of
  turn x h e =
      let here : i < length out = omega (arith, d.long) in
      record {
        upto = omega arith;
        long = length-set out i x ∙ d.long;
        is = rw (add-one i, take-suc-set out i x here, take-suc w i 0 h, map-append, d.is, e);
      }

  ended : length w ≤ i → out ≡ numbers_of w
  ended h =
      let size : length out ≤ i = omega (arith, d.long) in
      rw (take_all i out size, take_all i w h) at d.is

begun : (w : List ℕ) (out : List Float) → length w ≡ length out → Loading w out 0
unfolding numbers_of
begun w out e = record { upto = omega arith; long = sym e; is = refl }

pub loop-i-init : goal.loop-i-init
loop-i-init c = begun _ _ c.requires

pub loop-i-preserved : goal.loop-i-preserved
loop-i-preserved c = turn c.loop-i.invariant c.of_bits.result (omega arith) c.of_bits.ensures

pub returns : goal.returns
returns c = ended c.loop-i.invariant (omega (arith, c.requires, c.loop-i.invariant.long))
