-- `big_endian::big_endian` meets its contract. The invariant: v is the number in the bytes so far, and below 256 to their number, so that nothing overflows.
-- Assumes nothing.
use mathlib.Core.Path.{◌≡◌}
use Prim.Native.Nat.{◌^◌, ◌<◌}
use Rattle.big_endian.specs.Bytes.{big_endian}
use Rattle.big_endian.proofs.big_endian.Given as goal

abbrev pub invariant-loop-byte : goal.invariant-loop-byte
invariant-loop-byte l = (l.v ≡ big_endian l.b l.at l.byte-index) × (l.v < 256 ^ l.byte-index)
