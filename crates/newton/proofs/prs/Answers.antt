-- `newton::prs` meets its contract: its closure computes an element of prs. Assumes nothing.
use Rattle.std.proofs.Common.{rules}
use lib.Ieee.{Float}
use Rattle.numbers.specs.Ops.{◌⊖◌, ◌⊗◌}
use Rattle.newton.specs.Newton.{prs_of, zip3_of}
use Rattle.newton.proofs.prs.Goals as goal

pub returns : goal.returns
unfolding prs_of zip3_of
returns c = c.zip3.ensures (λ (v a b : Float). v ⊗ a ⊖ b ⊗ b) (λ v a b r e. search rules)
