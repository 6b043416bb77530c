-- `several::eight` meets its contract. The outer invariant: each of the eight sums has its first i terms; the inner: the first k have one more.
-- Assumes nothing.
use Prim.Native.Nat.{ℕ, ◌+◌, ◌*◌, ◌≤◌}
use mathlib.Core.List.{List}
use lib.Ieee.{Float}
use Rattle.numbers.specs.Ops.{◌⊗◌}
use Rattle.arrays.specs.Part.{part}
use Rattle.arrays.specs.Sums.{◌!◌}
use Rattle.several.proofs.Several.{Several}
use Rattle.several.proofs.eight.Given as goal

-- the terms of sum k
abbrev pub terms : List Float → ℕ → ℕ → List Float → ℕ → ℕ → ℕ → ℕ → Float
terms x a apart y b n k i = part x (a + k * apart) n ! i ⊗ part y b n ! i

abbrev pub invariant-loop-k : goal.invariant-loop-k
invariant-loop-k l = Several 8 (terms l.x l.a l.apart l.y l.b l.n) l.i l.t l.k

abbrev pub invariant-loop-i : goal.invariant-loop-i
invariant-loop-i l = (l.i ≤ l.n) × Several 8 (terms l.x l.a l.apart l.y l.b l.n) l.i l.t 0
