-- `lazy_columns_both::add_fours` meets its contract. The invariant: both sums have the first 4 * i rows. Assumes nothing.
use Prim.Native.Nat.{◌+◌, ◌*◌}
use Rattle.arrays.specs.Part.{part}
use Rattle.arrays.specs.Sums.{◌!◌}
use Rattle.arrays.proofs.Turns.{Made}
use Rattle.lazy_columns.proofs.ColumnSums.{summed}
use Rattle.lazy_columns_both.proofs.add_fours.Given as goal

abbrev pub invariant-loop-i : goal.invariant-loop-i
invariant-loop-i l =
    Made l.initial.s l.out l.p (summed l.m l.initial.s l.p l.l (λ j. part l.initial.s l.out l.p ! j) l.v (l.n + l.p) (4 * l.i)) l.s l.p
    × Made l.initial.y 0 l.p (summed l.m l.initial.s l.p l.l (λ j. part l.initial.y 0 l.p ! j) l.w (l.n + l.p) (4 * l.i)) l.y l.p
