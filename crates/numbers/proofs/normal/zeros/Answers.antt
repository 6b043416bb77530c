-- `normal::zeros` is the count of leading zeros, which fits 64 bits. Assumes nothing.
use lib.Count.{leading_le}
use native.Mathlib.Omega.{arith}
use Rattle.numbers.proofs.normal.zeros.Goals as goal

pub overflow_cast-result : goal.overflow_cast-result
overflow_cast-result c = omega (arith, leading_le 64 c.args.low)
