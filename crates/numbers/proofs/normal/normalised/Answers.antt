-- `normal::normalised` meets its contract: the arithmetic is in Normals. Assumes nothing.
use Prim.Native.Nat.{◌%◌, ◌^◌}
use native.Mathlib.Omega.{arith}
use lib.Count.{leading_le}
use Rattle.numbers.proofs.Normals.{zeros-at-least, low-normal, high-normal}
use Rattle.numbers.proofs.normal.normalised.Goals as goal

pub overflow_sub-s : goal.overflow_sub-s
overflow_sub-s c = omega (arith, zeros-at-least (c.args.bits % 2 ^ 52) (omega arith) (omega arith))

pub overflow_sub-result : goal.overflow_sub-result
overflow_sub-result c = omega (arith, leading_le 64 (c.args.bits % 2 ^ 52))

pub overflow_shl-result : goal.overflow_shl-result
overflow_shl-result c = omega (arith, leading_le 64 (c.args.bits % 2 ^ 52))

pub returns-then-field-eq0 : goal.returns-then-field-eq0
returns-then-field-eq0 c = low-normal _ _ (omega arith) c.if-field-eq0.true c.zeros-s.ensures

pub returns : goal.returns
returns c = high-normal _ (omega arith) c.if-field-eq0.false
