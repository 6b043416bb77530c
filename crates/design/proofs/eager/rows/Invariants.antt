-- `design::eager::rows` meets its contract. The invariant: the first i rows of the design are written, and all else is as it was.
-- Assumes nothing.
use Prim.Native.Nat.{◌*◌}
use Rattle.arrays.specs.Part.{part}
use Rattle.design.specs.Rows.{row_of}
use Rattle.design.proofs.Grids.{Written}
use Rattle.design.proofs.eager.rows.Given as goal

abbrev pub invariant-loop-i : goal.invariant-loop-i
invariant-loop-i l = Written l.initial.s l.out l.n l.p (λ k. row_of l.normalise l.gamma l.m (k * l.p) (part l.initial.s l.ce l.p) (part l.initial.s l.sc l.p)) l.s l.i
