-- `big_endian::write_bytes` meets its contract. The invariant: the first j bytes are written, and all else is as it was. Assumes nothing.
use mathlib.Core.Path.{◌≡◌}
use Prim.Native.Nat.{◌≤◌}
use lib.ListN.{length, get_or}
use Rattle.arrays.specs.Part.{put, tab}
use Rattle.big_endian.proofs.write_bytes.Given as goal

abbrev pub invariant-loop-j : goal.invariant-loop-j
invariant-loop-j l = (l.j ≤ length l.b) × (length l.out ≡ length l.initial.out) × (l.out ≡ put l.initial.out l.at (tab (λ i. get_or l.b i 0) l.j))
