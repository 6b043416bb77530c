-- `several::add_products_both` meets its contract. The outer invariant: the first j sums of both are written, and all else is as it was; the inner: p and q
-- are sums j with their first k products. Assumes nothing.
use Prim.Native.Nat.{◌≤◌}
use mathlib.Core.Path.{◌≡◌}
use Rattle.arrays.specs.Sums.{◌!◌}
use Rattle.several.specs.Several.{added_of}
use Rattle.arrays.proofs.Turns.{Made}
use Rattle.several.proofs.add_products_both.Given as goal

abbrev pub invariant-loop-k : goal.invariant-loop-k
invariant-loop-k l = (l.k ≤ 4) × (l.p ≡ added_of l.s l.out l.s (λ i. l.x ! i) l.r l.apart l.k l.j) × (l.q ≡ added_of l.t 0 l.s (λ i. l.z ! i) l.r l.apart l.k l.j)

abbrev pub invariant-loop-j : goal.invariant-loop-j
invariant-loop-j l = Made l.initial.s l.out l.n (added_of l.initial.s l.out l.initial.s (λ i. l.x ! i) l.r l.apart 4) l.s l.j × Made l.initial.t 0 l.n (added_of l.initial.t 0 l.initial.s (λ i. l.z ! i) l.r l.apart 4) l.t l.j
