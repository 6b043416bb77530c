-- `arrays::vectors::fill` meets its contract. Assumes nothing.
use mathlib.Core.Path.{◌∙◌}
use Rattle.arrays.proofs.Lengths.{length-fill}
use Rattle.arrays.proofs.Ranges.{put-range, fill-range}
use Rattle.arrays.proofs.vectors.fill.Goals as goal

pub returns : goal.returns
returns c =
    let g = c.args in
    put-range g.s.now g.out g.n _ (c.fill.ensures.after (λ y h. h) ∙ fill-range g.s.now g.out g.n g.x c.requires) (length-fill g.x g.n) c.requires
