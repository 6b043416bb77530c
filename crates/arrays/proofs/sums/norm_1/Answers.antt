-- `arrays::sums::norm_1` meets its contract: its closure adds a magnitude. Assumes nothing.
use Rattle.std.proofs.Common.{rules}
use lib.Ieee.{Float}
use Rattle.numbers.specs.Ops.{◌⊕◌, magnitude_of}
use Rattle.arrays.specs.Sums.{norm1_of}
use Rattle.arrays.proofs.Ranges.{folds-part}
use Rattle.arrays.proofs.sums.norm_1.Goals as goal

pub returns : goal.returns
unfolding norm1_of
returns c =
    let g = c.args in
    folds-part (λ (t x : Float). t ⊕ x) magnitude_of (λ t x r f k. search rules) g.x.now g.a g.n (cc) c.requires c.fold.ensures.ran
