-- `square_root::half` meets its contract: the arithmetic is in Halves. Assumes nothing.
use native.Mathlib.Omega.{arith}
use Rattle.numbers.proofs.Halves.{half-even, half-odd}
use Rattle.numbers.proofs.square_root.half.Goals as goal

pub returns-then-b-eq1 : goal.returns-then-b-eq1
returns-then-b-eq1 c = half-odd _ _ c.nearest_root.result (omega arith) (omega arith) (λ h. omega arith) (omega arith) c.nearest_root.ensures

pub returns : goal.returns
returns c = half-even _ _ c.nearest_root-2.result (omega arith) (omega arith) (omega arith) (omega arith) c.nearest_root-2.ensures
