-- `design::statistics::first_constant` meets its contract. The invariant: what is left to test, from column j on, gives the whole answer.
-- The measure: p - j. Assumes nothing.
use mathlib.Core.Path.{◌≡◌}
use Prim.Native.Nat.{◌-◌, ◌≤◌}
use Rattle.design.specs.Statistics.{constant_from, constant_of}
use Rattle.design.proofs.statistics.first_constant.Given as goal

abbrev pub invariant-loop-j : goal.invariant-loop-j
invariant-loop-j l = (l.j ≤ l.p) × (constant_from l.m l.n l.p (l.p - l.j) l.j ≡ constant_of l.m l.n l.p)

abbrev pub decreases-loop-j : goal.decreases-loop-j
decreases-loop-j l = l.p - l.j
