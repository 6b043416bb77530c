-- `eager_gram::sums` meets its contract. The invariants: 4 * i rows, or i rows, are added, and all else is as it was. Assumes nothing.
use Prim.Native.Nat.{◌*◌}
use Rattle.eager_gram.proofs.Added.{Summed}
use Rattle.eager_gram.proofs.sums.Given as goal

abbrev pub invariant-loop-i : goal.invariant-loop-i
invariant-loop-i l = Summed l.fn.s l.g l.p l.at l.n l.s (4 * l.i)

abbrev pub invariant-loop-i-2 : goal.invariant-loop-i-2
invariant-loop-i-2 l = Summed l.fn.s l.g l.p l.at l.n l.s l.i
