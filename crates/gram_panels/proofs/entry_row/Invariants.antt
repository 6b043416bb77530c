-- `gram_panels::entry_row` meets its contract. The invariants: the w sums are those after 4 * i, or i, rows of the panels, and all else is as it was.
-- Assumes nothing.
use Prim.Native.Nat.{◌*◌}
use Rattle.arrays.proofs.Turns.{Made}
use Rattle.gram_panels.specs.Panels.{sum_at}
use Rattle.gram_panels.proofs.entry_row.Given as goal

abbrev pub invariant-loop-i : goal.invariant-loop-i
invariant-loop-i l = Made l.fn.s l.at l.w (sum_at l.fn.s l.at l.pair.left l.pair.right l.pair.cc (4 * l.i)) l.s l.w

abbrev pub invariant-loop-i-2 : goal.invariant-loop-i-2
invariant-loop-i-2 l = Made l.fn.s l.at l.w (sum_at l.fn.s l.at l.pair.left l.pair.right l.pair.cc l.i) l.s l.w
