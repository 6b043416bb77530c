-- `column_moments::add_fours` meets its contract. The invariant: the first 4 * i rows are added. Assumes nothing.
use Prim.Native.Nat.{◌*◌, ◌≤◌}
use Rattle.column_moments.proofs.Pairs.{WithRows}
use Rattle.column_moments.proofs.add_fours.Given as goal

abbrev pub invariant-loop-i : goal.invariant-loop-i
invariant-loop-i l = (l.i ≤ l.q) × WithRows l.initial.s l.sums l.squares l.m 0 l.cols (4 * l.i) l.s
