-- `lazy_rows::row_sum` meets its contract. The invariant: x is the sum of the first j products, from +0. Assumes nothing.
use mathlib.Core.Path.{◌≡◌}
use Rattle.arrays.specs.Part.{part}
use Rattle.arrays.specs.Sums.{◌!◌, products, plus0}
use Rattle.lazy_normalization.proofs.Entries.{row_of}
use Rattle.lazy_rows.proofs.row_sum.Given as goal

abbrev pub invariant-loop-j : goal.invariant-loop-j
invariant-loop-j l = l.x ≡ products plus0 (row_of l.m l.s l.p l.ce l.sc l.rc l.i) (λ k. part l.s l.v l.p ! k) l.j
