-- `lone_rounds::diagonal` meets its contract. The invariant: the first i elements are copied, and all else is as it was.
-- Assumes nothing.
use Prim.Native.Nat.{◌+◌, ◌*◌}
use Rattle.arrays.specs.Sums.{◌!◌}
use Rattle.arrays.proofs.Turns.{Made}
use Rattle.lone_rounds.proofs.diagonal.Given as goal

abbrev pub invariant-loop-i : goal.invariant-loop-i
invariant-loop-i l = Made l.initial.s l.out l.n (λ k. l.a ! (k * l.n + k)) l.s l.i
