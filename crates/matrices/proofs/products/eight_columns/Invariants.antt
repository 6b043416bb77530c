-- `matrices::products::eight_columns` meets its contract. The outer invariant: each of the eight sums has its first i terms; the inner: the first k have one
-- more. Assumes nothing.
use Prim.Native.Nat.{ℕ, ◌+◌, ◌*◌}
use mathlib.Core.List.{List}
use lib.Ieee.{Float}
use Rattle.numbers.specs.Ops.{◌⊗◌}
use Rattle.arrays.specs.Part.{part}
use Rattle.arrays.specs.Sums.{◌!◌}
use Rattle.several.proofs.Several.{Several}
use Rattle.matrices.proofs.products.eight_columns.Given as goal

-- the terms of sum k
abbrev pub terms : List Float → ℕ → ℕ → List Float → ℕ → ℕ → Float
terms m cols j xs k i = m ! (i * cols + (j + k)) ⊗ xs ! i

abbrev pub invariant-loop-k : goal.invariant-loop-k
invariant-loop-k l = Several 8 (terms l.m l.cols l.j (part l.s l.v l.rows)) l.i l.t l.k

abbrev pub invariant-loop-i : goal.invariant-loop-i
invariant-loop-i l = Several 8 (terms l.m l.cols l.j (part l.s l.v l.rows)) l.i l.t 0
