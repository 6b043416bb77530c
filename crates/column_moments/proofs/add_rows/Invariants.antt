-- `column_moments::add_rows` meets its contract. The invariant: the first i rows from `at` on are added. Assumes nothing.
use Prim.Native.Nat.{◌≤◌}
use Rattle.column_moments.proofs.Pairs.{WithRows}
use Rattle.column_moments.proofs.add_rows.Given as goal

abbrev pub invariant-loop-i : goal.invariant-loop-i
invariant-loop-i l = (l.i ≤ l.left) × WithRows l.initial.s l.sums l.squares l.m l.at l.cols l.i l.s
