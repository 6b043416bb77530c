-- `sheet_write::Rows::write` meets its contract. The invariant: the bytes of the first i rows are written, and all else is as it was. The measure: n - i.
-- Assumes nothing.
use mathlib.Core.Path.{◌≡◌}
use Prim.Native.Nat.{◌-◌, ◌≤◌}
use lib.ListN.{length}
use Rattle.arrays.specs.Part.{put}
use Rattle.sheet_write.specs.Write.{rows_bytes}
use Rattle.sheet_write.proofs.Rows.write.Given as goal

abbrev pub invariant-loop-i : goal.invariant-loop-i
invariant-loop-i l = (l.i ≤ l.n) × (length l.out ≡ length l.initial.out) × (l.out ≡ put l.initial.out l.at (rows_bytes l.p l.self.sources.now l.self.targets.now l.self.x.now l.self.y.now l.i))

abbrev pub decreases-loop-i : goal.decreases-loop-i
decreases-loop-i l = l.n - l.i
