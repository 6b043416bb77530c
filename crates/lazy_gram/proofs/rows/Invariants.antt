-- `lazy_gram::rows` meets its contract. The invariant: but for the panels, the sums are those over the first `row` rows, and all else is as it was.
-- The measure: n - row. Assumes nothing.
use Prim.Native.Nat.{◌+◌, ◌-◌, ◌*◌, ◌≤◌}
use Rattle.gram_panels.specs.Panels.{mat, cell, low}
use Rattle.lazy_gram.specs.Nest.{Like, entry}
use Rattle.lazy_gram.proofs.rows.Given as goal

abbrev pub invariant-loop-row : goal.invariant-loop-row
invariant-loop-row l =
    (l.row ≤ l.n)
    × Like l.pl.le (l.pl.ri + l.rr * l.pl.cc) l.s (mat l.initial.s l.pl.ga l.p low (entry (cell l.m l.p l.initial.s l.pl.ce l.pl.sc) l.row) l.p)

abbrev pub decreases-loop-row : goal.decreases-loop-row
decreases-loop-row l = l.n - l.row
