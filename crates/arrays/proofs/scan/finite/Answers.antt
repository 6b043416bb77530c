-- `arrays::scan::finite` meets its contract. Assumes nothing.
use mathlib.Core.Path.{◌∙◌}
use lib.Ieee.{div, neg, of_bits}
use Rattle.arrays.proofs.Scans.{above-minus, not-above}
use Rattle.arrays.proofs.scan.finite.Goals as goal

pub returns-then-x : goal.returns-then-x
unfolding div neg of_bits
returns-then-x c = above-minus c.args.x c.if-x.true

pub returns-else-x : goal.returns-else-x
unfolding div neg of_bits
returns-else-x c = c.if-x.false ∙ not-above c.args.x c.if-x.false
