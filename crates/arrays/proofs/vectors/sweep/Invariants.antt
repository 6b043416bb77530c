-- `arrays::vectors::sweep` meets its contract. The invariant: the part is as it was, since each element is written as it was read. Assumes nothing.
use mathlib.Core.Path.{◌≡◌}
use Rattle.arrays.proofs.vectors.sweep.Given as goal

abbrev pub invariant-loop-v : goal.invariant-loop-v
invariant-loop-v l = l.v-items ≡ l.initial.v-items
