-- `lazy_columns::add_four` meets its contract. The outer invariant: the first j sums have their four products, and all else is as it was; the inner: t is
-- sum j with its first k products. Assumes nothing.
use Prim.Native.Nat.{◌+◌, ◌*◌}
use mathlib.Core.Path.{◌≡◌}
use Rattle.numbers.specs.Ops.{◌⊖◌, ◌⊗◌}
use Rattle.arrays.specs.Sums.{◌!◌, products}
use Rattle.arrays.proofs.Turns.{Made}
use Rattle.lazy_columns.proofs.ColumnSums.{four_sum}
use Rattle.lazy_columns.proofs.add_four.Given as goal

abbrev pub invariant-loop-k : goal.invariant-loop-k
invariant-loop-k l = l.t ≡ products l.initial.t (λ a. (l.m ! (l.at + a * l.p + l.j) ⊖ l.c) ⊗ l.by) (λ a. l.x ! a) l.k

abbrev pub invariant-loop-j : goal.invariant-loop-j
invariant-loop-j l = Made l.initial.s l.out l.p (four_sum l.m l.initial.s l.p l.ce l.rc l.initial.s l.out l.i l.x) l.s l.j
