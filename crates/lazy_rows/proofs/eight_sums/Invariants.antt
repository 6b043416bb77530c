-- `lazy_rows::eight_sums` meets its contract. The outer invariant: each of the eight sums has its first j products; the inner, of both branches: the
-- first k have one more. Assumes nothing.
use Prim.Native.Nat.{ℕ, ◌+◌, ◌*◌}
use mathlib.Core.List.{List}
use lib.Ieee.{Float}
use Rattle.numbers.specs.Ops.{◌⊗◌}
use Rattle.arrays.specs.Part.{part}
use Rattle.arrays.specs.Sums.{◌!◌}
use Rattle.several.proofs.Several.{Several}
use Rattle.lazy_normalization.proofs.Entries.{row_of}
use Rattle.lazy_rows.proofs.eight_sums.Given as goal

-- the products of sum k
abbrev pub terms : List Float → List Float → ℕ → ℕ → ℕ → ℕ → ℕ → ℕ → ℕ → ℕ → ℕ → Float
terms m s p ce sc rc v e i k j = row_of m s p ce sc rc (k * e + i) j ⊗ part s v p ! j

abbrev pub invariant-loop-k : goal.invariant-loop-k
invariant-loop-k l = Several 8 (terms l.m l.s l.p l.ce l.sc l.rc l.v l.e l.i) l.j l.x l.k

abbrev pub invariant-loop-k-else-by : goal.invariant-loop-k-else-by
invariant-loop-k-else-by l = Several 8 (terms l.m l.s l.p l.ce l.sc l.rc l.v l.e l.i) l.j l.x l.k

abbrev pub invariant-loop-j : goal.invariant-loop-j
invariant-loop-j l = Several 8 (terms l.m l.s l.p l.ce l.sc l.rc l.v l.e l.i) l.j l.x 0
