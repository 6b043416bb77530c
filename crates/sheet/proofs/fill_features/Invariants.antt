-- `sheet::fill_features` meets its contract. The invariant: the first j features are written, and all else is as it was. The measure: p - j. Assumes nothing.
use Prim.Native.Nat.{◌+◌, ◌-◌, ◌*◌}
use Rattle.arrays.proofs.Turns.{Made}
use Rattle.big_endian.specs.Bytes.{float_at}
use Rattle.sheet.proofs.fill_features.Given as goal

abbrev pub invariant-loop-j : goal.invariant-loop-j
invariant-loop-j l = Made l.initial.x l.out l.p (λ k. float_at l.b (l.at + 8 * k)) l.x l.j

abbrev pub decreases-loop-j : goal.decreases-loop-j
decreases-loop-j l = l.p - l.j
