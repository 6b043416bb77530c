-- `big_endian::float_at` meets its contract. Assumes nothing.
use mathlib.Core.Path.{ap, ◌∙◌}
use Rattle.numbers.specs.Ops.{f64}
use Rattle.big_endian.proofs.float_at.Goals as goal

pub returns : goal.returns
returns c = c.of_bits.ensures ∙ ap f64 c.big_endian.ensures.0
