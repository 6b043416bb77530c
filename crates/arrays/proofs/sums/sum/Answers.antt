-- `arrays::sums::sum` meets its contract: its closure adds. Assumes nothing.
use Rattle.std.proofs.Common.{rules}
use lib.Ieee.{Float, neg, of_bits}
use Rattle.numbers.specs.Ops.{◌⊕◌}
use Rattle.arrays.specs.Sums.{sum_of}
use Rattle.arrays.proofs.Ranges.{folds-part}
use Rattle.arrays.proofs.sums.sum.Goals as goal

pub returns : goal.returns
unfolding sum_of neg of_bits
returns c =
    let g = c.args in
    folds-part (λ (t x : Float). t ⊕ x) (λ (x : Float). x) (λ t x r f k. search rules) g.x.now g.a g.n (cc) c.requires c.fold.ensures.ran
