-- `big_endian::two_bytes` meets its contract. Assumes nothing.
use native.Mathlib.Nat.{add-zero}
use native.Mathlib.Omega.{arith}
use Rattle.big_endian.specs.Bytes.{big_endian}
use Rattle.big_endian.proofs.two_bytes.Goals as goal

pub returns : goal.returns
unfolding big_endian
returns c = rw add-zero (omega arith, omega arith)
