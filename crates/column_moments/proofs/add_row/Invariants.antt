-- `column_moments::add_row` meets its contract. The invariant: both sums of the first j columns are written, and all else is as it was.
-- Assumes nothing.
use Prim.Native.Nat.{◌≤◌}
use Rattle.several.specs.Several.{gathered}
use Rattle.column_moments.specs.Added.{itself, squared}
use Rattle.column_moments.proofs.Pairs.{Pair}
use Rattle.column_moments.proofs.add_row.Given as goal

abbrev pub invariant-loop-j : goal.invariant-loop-j
invariant-loop-j l = (l.j ≤ l.cols) × Pair l.initial.s l.sums l.squares l.j (gathered itself l.initial.s l.sums l.m l.at l.cols 1) (gathered squared l.initial.s l.squares l.m l.at l.cols 1) l.s
