-- `sheet::rows_check` meets its contract. The invariant: the answer is that of the rows that are left, from i on. Assumes nothing.
use mathlib.Core.Path.{◌≡◌}
use Prim.Native.Nat.{◌-◌}
use Rattle.sheet.specs.Rows.{rows_from}
use Rattle.sheet.proofs.rows_check.Given as goal

abbrev pub invariant-loop-i : goal.invariant-loop-i
invariant-loop-i l = rows_from l.b l.p l.n 0 ≡ rows_from l.b l.p (l.n - l.i) l.i
