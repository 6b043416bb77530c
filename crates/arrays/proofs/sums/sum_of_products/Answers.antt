-- `arrays::sums::sum_of_products` meets its contract: its closure adds a product. Assumes nothing.
use Rattle.std.proofs.Common.{rules}
use lib.Ieee.{Float}
use Rattle.numbers.specs.Ops.{◌⊕◌, ◌⊗◌}
use Rattle.arrays.proofs.Ranges.{folds-parts}
use Rattle.arrays.proofs.sums.sum_of_products.Goals as goal

pub returns : goal.returns
returns c =
    let g = c.args in
    folds-parts (λ (t x : Float). t ⊕ x) (λ (v w : Float). v ⊗ w) (λ t p r f k. search rules) g.x.now g.a g.y.now g.b g.n (cc) (cc) c.requires.n_in_bounds c.requires.n_in_bounds_2 c.fold.ensures.ran
