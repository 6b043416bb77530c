-- `newton::zip3` meets its contract. The invariant: of whatever function f computes, the first i elements are written, and all else is as it was.
-- Assumes nothing.
use Prim.Native.Nat.{◌≤◌}
use mathlib.Core.Path.{◌≡◌}
use lib.ListN.{length}
use lib.Ieee.{Float}
use Rattle.arrays.specs.Part.{part}
use Rattle.arrays.specs.Sums.{◌!◌}
use Rattle.arrays.proofs.Turns.{Made}
use Rattle.newton.specs.Newton.{GivesOfThree}
use Rattle.newton.proofs.zip3.Given as goal

abbrev pub invariant-loop-i : goal.invariant-loop-i
invariant-loop-i g l = record {
  within : l.i ≤ l.n;
  long : length l.s ≡ length l.initial.s;
  made : (h : Float → Float → Float → Float) → GivesOfThree (goal.F-post g l.f) h
      → Made l.initial.s l.out l.n (λ k. h (part l.initial.s l.a l.n ! k) (part l.initial.s l.b l.n ! k) (part l.initial.s l.c l.n ! k)) l.s l.i;
}
