-- `lazy_columns::all_there` meets its contract. The invariant: `good` says whether the first j reciprocals are there. Assumes nothing.
use mathlib.Core.Path.{◌≡◌}
use Rattle.arrays.specs.Part.{part}
use Rattle.lazy_columns.specs.ColumnSums.{all_there}
use Rattle.lazy_columns.proofs.all_there.Given as goal

abbrev pub invariant-loop-j : goal.invariant-loop-j
invariant-loop-j l = l.good ≡ all_there (part l.s l.rc l.p) l.j
