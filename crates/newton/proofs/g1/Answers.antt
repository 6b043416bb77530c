-- `newton::g1` meets its contract: its closure computes an element of g1. Assumes nothing.
use Rattle.std.proofs.Common.{rules}
use lib.Ieee.{Float}
use Rattle.numbers.specs.Ops.{◌⊖◌, ◌⊗◌, ◌⊘◌}
use Rattle.numbers.specs.Constants.{two}
use Rattle.newton.specs.Newton.{g1_of, zip3_of}
use Rattle.newton.proofs.g1.Goals as goal

pub returns : goal.returns
unfolding g1_of zip3_of
returns c = c.zip3.ensures (λ (v a b : Float). two ⊗ v ⊖ (a ⊖ b) ⊘ c.args.t) (λ v a b r e. search rules)
