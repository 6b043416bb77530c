-- `prediction::runs` meets its contract. The invariant: of each run the predictions of the first i rows are written. The measure: e - i. Assumes nothing.
use Prim.Native.Nat.{◌-◌}
use Rattle.several.proofs.Runs.{Runs}
use Rattle.prediction.proofs.EachRow.{one}
use Rattle.prediction.proofs.runs.Given as goal

abbrev pub invariant-loop-i : goal.invariant-loop-i
invariant-loop-i l = Runs l.initial.out 0 8 l.e (one l.p l.x l.w l.b) l.out l.i 0

abbrev pub decreases-loop-i : goal.decreases-loop-i
decreases-loop-i l = l.e - l.i
