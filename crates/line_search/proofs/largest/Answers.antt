-- `line_search::largest` meets its contract: its closure takes the larger of an element and what it has. Assumes nothing.
use Rattle.std.proofs.Common.{rules}
use lib.Ieee.{Float, div, neg, of_bits}
use Rattle.numbers.specs.Order.{maximum_of}
use Rattle.arrays.proofs.Ranges.{folds-part}
use Rattle.line_search.specs.Search.{largest_of}
use Rattle.line_search.proofs.largest.Goals as goal

pub returns : goal.returns
unfolding largest_of div neg of_bits
returns c =
    let g = c.args in
    folds-part (λ (max v : Float). maximum_of v max) (λ v. v) (λ t x r f k. search rules) g.s.now g.a g.n (cc) c.requires c.fold.ensures.ran
