-- `column_moments::add_four` meets its contract. The outer invariant: both sums of the first j columns are written, and all else is as it was; the inner: t and
-- u are those of column j with the first k rows. Assumes nothing.
use Prim.Native.Nat.{◌≤◌}
use mathlib.Core.Path.{◌≡◌}
use Rattle.several.specs.Several.{gathered}
use Rattle.column_moments.specs.Added.{itself, squared}
use Rattle.column_moments.proofs.Pairs.{Pair}
use Rattle.column_moments.proofs.add_four.Given as goal

abbrev pub invariant-loop-k : goal.invariant-loop-k
invariant-loop-k l = (l.k ≤ 4) × (l.t ≡ gathered itself l.s l.sums l.m l.at l.cols l.k l.j) × (l.u ≡ gathered squared l.s l.squares l.m l.at l.cols l.k l.j)

abbrev pub invariant-loop-j : goal.invariant-loop-j
invariant-loop-j l = (l.j ≤ l.cols) × Pair l.initial.s l.sums l.squares l.j (gathered itself l.initial.s l.sums l.m l.at l.cols 4) (gathered squared l.initial.s l.squares l.m l.at l.cols 4) l.s
