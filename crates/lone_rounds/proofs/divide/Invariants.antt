-- `lone_rounds::divide` meets its contract. The invariant: the first i quotients are written, and all else is as it was. Assumes nothing.
use Prim.Native.Nat.{◌*◌}
use Rattle.arrays.specs.Part.{part}
use Rattle.arrays.specs.Sums.{◌!◌}
use Rattle.arrays.proofs.Turns.{Made}
use Rattle.lone_rounds.specs.Lone.{over_of}
use Rattle.lone_rounds.proofs.divide.Given as goal

abbrev pub invariant-loop-i : goal.invariant-loop-i
invariant-loop-i l = Made l.initial.s l.out l.n (λ k. over_of (part l.initial.s l.b l.n ! k) (part l.initial.s (7 * l.n) l.n ! k)) l.s l.i
