-- `sheet::count_remaining` meets its contract. The invariant: `left` of the first i rows remain. Assumes nothing.
use mathlib.Core.Path.{◌≡◌}
use Prim.Native.Nat.{◌≤◌}
use Rattle.sheet.proofs.Remaining.{place}
use Rattle.sheet.proofs.count_remaining.Given as goal

abbrev pub invariant-loop-i : goal.invariant-loop-i
invariant-loop-i l = (l.i ≤ l.n) × (l.left ≡ place l.b l.p l.i)
