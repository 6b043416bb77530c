-- `lazy_columns::columns` meets its contract. The invariants: the sums have the first 4 * i, or i, rows, and all else is as it was; and fours reach no row beyond
-- the last, and none where a reciprocal is missing. Assumes nothing.
use mathlib.Core.Path.{◌≡◌}
use mathlib.Core.Bool.{true}
use Prim.Native.Nat.{◌+◌, ◌*◌, ◌≤◌, ◌<◌}
use Rattle.arrays.specs.Part.{part}
use Rattle.arrays.proofs.Turns.{Made}
use Rattle.lazy_columns.specs.ColumnSums.{all_there}
use Rattle.lazy_columns.proofs.ColumnSums.{column_sum}
use Rattle.lazy_columns.proofs.columns.Given as goal

abbrev pub invariant-loop-i : goal.invariant-loop-i
invariant-loop-i l = record {
  within : 4 * l.fours ≤ l.n;
  there : 0 < l.fours → all_there (part l.fn.s l.l.recip l.p) l.p ≡ true;
  made : Made l.fn.s l.out l.p (column_sum l.m l.fn.s l.p l.l l.v (l.n + l.p) (4 * l.i)) l.s l.p;
}

abbrev pub invariant-loop-i-2 : goal.invariant-loop-i-2
invariant-loop-i-2 l = Made l.fn.s l.out l.p (column_sum l.m l.fn.s l.p l.l l.v (l.n + l.p) l.i) l.s l.p
