-- `square_root::nearest_root` meets its contract. The invariant: w holds as many bits of the root of m * 2 ^ 54 as rounds were made.
-- The measure: 54 - bit. The arithmetic is in Recurrence. Assumes nothing.
use Prim.Native.Nat.{◌-◌}
use Rattle.numbers.proofs.Recurrence.{Worked}
use Rattle.numbers.proofs.square_root.nearest_root.Given as goal

abbrev pub invariant-loop-bit : goal.invariant-loop-bit
invariant-loop-bit l = Worked l.m l.w l.bit

abbrev pub decreases-loop-bit : goal.decreases-loop-bit
decreases-loop-bit l = 54 - l.bit
