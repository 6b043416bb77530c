-- `numbers::powers::power` meets its contract: each arm is that of `power_of`. Assumes nothing.
use mathlib.Core.Path.{ap, sym, ◌∙◌}
use Rattle.numbers.specs.declared.powers.Exponent.{Exponent}
use Rattle.numbers.specs.Powers.{power_of}
use Rattle.numbers.proofs.powers.power.Goals as goal

pub returns-in-Two : goal.returns-in-Two
returns-in-Two c = sym (ap (λ (k : Exponent). power_of k c.args.x) c.in-Two.is)

pub returns-in-Half : goal.returns-in-Half
returns-in-Half c = c.root.ensures ∙ sym (ap (λ (k : Exponent). power_of k c.args.x) c.in-Half.is)
