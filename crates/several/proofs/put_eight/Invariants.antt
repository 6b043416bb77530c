-- `several::put_eight` meets its contract. The invariant: the first k numbers are written.
-- Assumes nothing.
use Prim.Native.Nat.{◌≤◌}
use mathlib.Core.Path.{◌≡◌}
use lib.ListN.{length}
use Rattle.arrays.specs.Sums.{◌!◌}
use Rattle.several.specs.Several.{spread_of}
use Rattle.several.proofs.put_eight.Given as goal

abbrev pub invariant-loop-k : goal.invariant-loop-k
invariant-loop-k l = (l.k ≤ 8) × (length l.s ≡ length l.initial.s) × (l.s ≡ spread_of l.initial.s l.out l.apart (λ i. l.fn.t ! i) l.k)
