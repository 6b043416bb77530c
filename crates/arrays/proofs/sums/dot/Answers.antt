-- `arrays::sums::dot` meets its contract. Assumes nothing.
use lib.Ieee.{neg, of_bits}
use Rattle.arrays.specs.Sums.{dot_of}
use Rattle.arrays.proofs.sums.dot.Goals as goal

pub returns : goal.returns
unfolding dot_of neg of_bits
returns c = c.sum_of_products.ensures
