-- `inner_solver::low_times` meets its contract. The invariant: the first i elements of the lower half are written, and all else is as it was.
-- The measure: p - i. Assumes nothing.
use Prim.Native.Nat.{◌*◌, ◌-◌}
use Rattle.arrays.specs.Part.{part}
use Rattle.arrays.proofs.Turns.{Made}
use Rattle.inner_solver.specs.Inner.{low_times}
use Rattle.inner_solver.proofs.low_times.Given as goal

abbrev pub invariant-loop-i : goal.invariant-loop-i
invariant-loop-i l = Made l.initial.s l.out l.p (low_times l.p (part l.initial.s l.atax l.p) (part l.initial.s l.d1 l.p) (part l.initial.s l.d2 l.p) (part l.initial.s l.x (2 * l.p))) l.s l.i

abbrev pub decreases-loop-i : goal.decreases-loop-i
decreases-loop-i l = l.p - l.i
