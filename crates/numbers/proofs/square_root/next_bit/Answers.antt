-- `square_root::next_bit` meets its contract, by the bit that it finds. Assumes nothing.
use native.Mathlib.Omega.{arith}
use Rattle.numbers.proofs.Recurrence.{is_one, is_zero}
use Rattle.numbers.proofs.square_root.next_bit.Goals as goal

pub returns-then-trial-remainder : goal.returns-then-trial-remainder
returns-then-trial-remainder c = is_one _ (omega arith)

pub returns : goal.returns
returns c = is_zero _ (omega arith)
