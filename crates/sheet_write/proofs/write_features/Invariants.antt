-- `sheet_write::write_features` meets its contract. The invariant: the bytes of the first j features are written, and all else is as it was.
-- The measure: p - j. Assumes nothing.
use mathlib.Core.Path.{◌≡◌}
use Prim.Native.Nat.{◌+◌, ◌-◌, ◌≤◌}
use lib.ListN.{length}
use Rattle.arrays.specs.Part.{put}
use Rattle.arrays.specs.Sums.{◌!◌}
use Rattle.big_endian.specs.Bytes.{float_bytes}
use Rattle.sheet_write.specs.Write.{joined}
use Rattle.sheet_write.proofs.write_features.Given as goal

abbrev pub invariant-loop-j : goal.invariant-loop-j
invariant-loop-j l = (l.j ≤ l.p) × (length l.out ≡ length l.initial.out) × (l.out ≡ put l.initial.out l.at (joined (λ k. float_bytes (l.x ! (l.from + k))) l.j))

abbrev pub decreases-loop-j : goal.decreases-loop-j
decreases-loop-j l = l.p - l.j
