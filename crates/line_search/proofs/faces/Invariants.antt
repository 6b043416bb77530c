-- `line_search::faces` meets its contract. The invariant: the pairs of the first i weights are written, and all else is as it was.
-- Assumes nothing.
use mathlib.Core.Bool.{cond}
use lib.Dec.{eqb}
use lib.Ieee.{neg}
use Rattle.numbers.specs.Ops.{◌⊖◌}
use Rattle.arrays.specs.Part.{part}
use Rattle.arrays.specs.Sums.{◌!◌}
use Rattle.line_search.proofs.Pairs.{Paired}
use Rattle.line_search.proofs.faces.Given as goal

abbrev pub invariant-loop-i : goal.invariant-loop-i
invariant-loop-i l = Paired l.initial.s l.out l.p (λ k c. cond (eqb c 0) (part l.initial.s l.w l.p ! k ⊖ part l.initial.s l.u l.p ! k) (neg (part l.initial.s l.w l.p ! k) ⊖ part l.initial.s l.u l.p ! k)) l.s l.i
