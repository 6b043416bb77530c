-- `lazy_rows::rows` meets its contract. The invariants: the first i elements of each run, or the first i elements, are written, and all else is as it was.
-- Assumes nothing.
use Rattle.numbers.specs.Ops.{◌⊗◌}
use Rattle.arrays.proofs.Turns.{Made}
use Rattle.several.proofs.Runs.{Runs}
use Rattle.lazy_rows.proofs.RowSums.{row_sum}
use Rattle.lazy_rows.proofs.rows.Given as goal

abbrev pub invariant-loop-i : goal.invariant-loop-i
invariant-loop-i l = Runs l.fn.s l.out 8 l.e (λ a. row_sum l.m l.fn.s l.p l.l l.v a ⊗ l.t.gamma) l.s l.i 0

abbrev pub invariant-loop-i-2 : goal.invariant-loop-i-2
invariant-loop-i-2 l = Made l.fn.s l.out l.n (λ a. row_sum l.m l.fn.s l.p l.l l.v a ⊗ l.t.gamma) l.s l.i
