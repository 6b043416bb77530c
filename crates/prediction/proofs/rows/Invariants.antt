-- `prediction::rows` meets its contract. The invariant: over what `runs` left the predictions of the first i rows are written, and the others are as they were.
-- The measure: n - i. Assumes nothing.
use Prim.Native.Nat.{◌-◌}
use Rattle.arrays.proofs.Turns.{Made}
use Rattle.prediction.proofs.EachRow.{one}
use Rattle.prediction.proofs.rows.Given as goal

abbrev pub invariant-loop-i : goal.invariant-loop-i
invariant-loop-i l = Made l.initial.out 0 l.n (one l.p l.x l.w l.b) l.out l.i

abbrev pub decreases-loop-i : goal.decreases-loop-i
decreases-loop-i l = l.n - l.i
