-- `lazy_columns_both::add_rest` meets its contract. The invariant: both sums have the rows before row i. Assumes nothing.
use Prim.Native.Nat.{◌-◌}
use Rattle.arrays.proofs.Turns.{Made}
use Rattle.lazy_columns_both.proofs.Both.{from_row}
use Rattle.lazy_columns_both.proofs.add_rest.Given as goal

abbrev pub invariant-loop-i : goal.invariant-loop-i
invariant-loop-i l =
    Made l.initial.s l.out l.p (from_row l.m l.initial.s l.p l.l l.initial.s l.out l.v l.from (l.i - l.from)) l.s l.p
    × Made l.initial.y 0 l.p (from_row l.m l.initial.s l.p l.l l.initial.y 0 l.w l.from (l.i - l.from)) l.y l.p
