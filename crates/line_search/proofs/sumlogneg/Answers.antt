-- `line_search::sumlogneg` meets its contract: its closure adds a logarithm. Assumes nothing.
use Rattle.std.proofs.Common.{rules}
use lib.Ieee.{Float, neg}
use Rattle.numbers.specs.Ops.{◌⊕◌}
use Rattle.logarithm.specs.Log.{ln_of}
use Rattle.arrays.proofs.Ranges.{folds-part}
use Rattle.line_search.specs.Search.{sumlogneg_of}
use Rattle.line_search.proofs.sumlogneg.Goals as goal

pub returns : goal.returns
unfolding sumlogneg_of
returns c =
    let g = c.args in
    folds-part (λ (t x : Float). t ⊕ x) (λ (v : Float). ln_of (neg v)) (λ t x r f k. search rules) g.s.now g.a g.n (cc) c.requires c.fold.ensures.ran
