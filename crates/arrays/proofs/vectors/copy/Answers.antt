-- `arrays::vectors::copy` meets its contract: a map that changes nothing. Assumes nothing.
use lib.Ieee.{Float, nan}
use Rattle.std.proofs.Common.{rules}
use Rattle.arrays.specs.Part.{part}
use Rattle.arrays.specs.Vectors.{map_of}
use Rattle.arrays.proofs.Part.{length_part, tab-all}
use Rattle.arrays.proofs.vectors.copy.Goals as goal

pub returns : goal.returns
unfolding map_of
returns c =
    let g = c.args in
    rw (tab-all (part g.s.now g.a g.n) g.n nan (length_part g.s.now g.a g.n c.requires.first)) at (c.map.ensures (λ (v : Float). v) (λ x r h. search rules))
