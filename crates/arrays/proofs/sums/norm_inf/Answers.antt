-- `arrays::sums::norm_inf` meets its contract: its closure takes the larger of what it has and a magnitude. Assumes nothing.
use Rattle.std.proofs.Common.{rules}
use lib.Ieee.{div, neg, of_bits}
use Rattle.numbers.specs.Ops.{magnitude_of}
use Rattle.numbers.specs.Order.{maximum_of}
use Rattle.arrays.specs.Sums.{norm_inf_of}
use Rattle.arrays.proofs.Ranges.{folds-part}
use Rattle.arrays.proofs.sums.norm_inf.Goals as goal

pub returns : goal.returns
unfolding norm_inf_of div neg of_bits
returns c =
    let g = c.args in
    folds-part maximum_of magnitude_of (λ t x r f k. search rules) g.x.now g.a g.n (cc) c.requires c.fold.ensures.ran
