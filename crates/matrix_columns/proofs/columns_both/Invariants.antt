-- `matrix_columns::columns_both` meets its contract. The invariants: both sums have the products of the first 4 * i, or i, rows, and all else is as it was.
-- Assumes nothing.
use Prim.Native.Nat.{◌*◌}
use Rattle.arrays.proofs.Turns.{Made}
use Rattle.matrix_columns.proofs.Summed.{summed}
use Rattle.matrix_columns.proofs.columns_both.Given as goal

abbrev pub invariant-loop-i : goal.invariant-loop-i
invariant-loop-i l =
    Made l.fn.s l.out l.cols (summed l.fn.s l.mat l.rows l.cols l.v (4 * l.i)) l.s l.cols
    × Made l.fn.t 0 l.cols (summed l.fn.s l.mat l.rows l.cols l.w (4 * l.i)) l.t l.cols

abbrev pub invariant-loop-i-2 : goal.invariant-loop-i-2
invariant-loop-i-2 l =
    Made l.fn.s l.out l.cols (summed l.fn.s l.mat l.rows l.cols l.v l.i) l.s l.cols
    × Made l.fn.t 0 l.cols (summed l.fn.s l.mat l.rows l.cols l.w l.i) l.t l.cols
