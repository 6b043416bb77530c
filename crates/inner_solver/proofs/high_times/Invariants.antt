-- `inner_solver::high_times` meets its contract. The invariant: the first i elements of the upper half are written, and all else is as it was.
-- The measure: p - i. Assumes nothing.
use Prim.Native.Nat.{◌+◌, ◌*◌, ◌-◌}
use Rattle.arrays.specs.Part.{part}
use Rattle.arrays.proofs.Turns.{Made}
use Rattle.inner_solver.specs.Inner.{high_times}
use Rattle.inner_solver.proofs.high_times.Given as goal

abbrev pub invariant-loop-i : goal.invariant-loop-i
invariant-loop-i l = Made l.initial.s (l.out + l.p) l.p (high_times l.p (part l.initial.s l.d1 l.p) (part l.initial.s l.d2 l.p) (part l.initial.s l.x (2 * l.p))) l.s l.i

abbrev pub decreases-loop-i : goal.decreases-loop-i
decreases-loop-i l = l.p - l.i
