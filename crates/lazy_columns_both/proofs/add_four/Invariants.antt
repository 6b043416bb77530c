-- `lazy_columns_both::add_four` meets its contract. The outer invariant: the first j sums of both have their four products, and all else is as it was; the
-- inner: a and b are sums j with their first k products. Assumes nothing.
use Prim.Native.Nat.{◌+◌, ◌*◌}
use mathlib.Core.Path.{◌≡◌}
use Rattle.numbers.specs.Ops.{◌⊖◌, ◌⊗◌}
use Rattle.arrays.specs.Sums.{◌!◌, products}
use Rattle.arrays.proofs.Turns.{Made}
use Rattle.lazy_columns.proofs.ColumnSums.{four_sum}
use Rattle.lazy_columns_both.proofs.add_four.Given as goal

abbrev pub invariant-loop-k : goal.invariant-loop-k
invariant-loop-k l = (l.a ≡ products l.initial.a (λ q. (l.m ! (l.at + q * l.p + l.j) ⊖ l.c) ⊗ l.by) (λ q. l.x ! q) l.k) × (l.b ≡ products l.initial.b (λ q. (l.m ! (l.at + q * l.p + l.j) ⊖ l.c) ⊗ l.by) (λ q. l.z ! q) l.k)

abbrev pub invariant-loop-j : goal.invariant-loop-j
invariant-loop-j l = Made l.initial.s l.out l.p (four_sum l.m l.initial.s l.p l.ce l.rc l.initial.s l.out l.i l.x) l.s l.j × Made l.initial.y 0 l.p (four_sum l.m l.initial.s l.p l.ce l.rc l.initial.y 0 l.i l.z) l.y l.j
