-- `sheet_fit::bits_from` meets its contract. The invariant: the bits of the first j weights are written, and the other words are as they were.
-- The measure: p - j. Assumes nothing.
use mathlib.Core.Path.{◌≡◌}
use Prim.Native.Nat.{◌-◌, ◌≤◌}
use lib.ListN.{length}
use lib.Ieee.{binary64, to_bits}
use Rattle.arrays.specs.Part.{put, tab}
use Rattle.arrays.specs.Sums.{◌!◌}
use Rattle.sheet_fit.proofs.bits_from.Given as goal

abbrev pub invariant-loop-j : goal.invariant-loop-j
invariant-loop-j l = (l.j ≤ l.p) × (length l.out ≡ length l.initial.out) × (l.out ≡ put l.initial.out 0 (tab (λ k. to_bits binary64 (l.w ! k)) l.j))

abbrev pub decreases-loop-j : goal.decreases-loop-j
decreases-loop-j l = l.p - l.j
