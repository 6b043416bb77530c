-- `stored::bits::load` meets its contract. The loop's invariant: the first i numbers are those of the first i words. Assumes nothing.
use Rattle.std.proofs.Common.{◌≡◌, ℕ, ◌-◌, ◌≤◌, List, length, take}
use Rattle.std.specs.Prelude.{Float}
use Rattle.stored.specs.Stored.{numbers_of}
use Rattle.stored.proofs.bits.load.Given as goal

pub record Loading (w : List ℕ) (out : List Float) (i : ℕ) : Type 0 where
  pub upto : i ≤ length w
  pub long : length out ≡ length w
  pub is : take i out ≡ numbers_of (take i w)

abbrev pub invariant-loop-i : goal.invariant-loop-i
invariant-loop-i l = Loading l.w l.out l.i

abbrev pub decreases-loop-i : goal.decreases-loop-i
decreases-loop-i l = length l.w - l.i
