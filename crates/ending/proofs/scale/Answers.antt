-- `ending::scale` meets its contract: the part that is written is all of it. Assumes nothing.
use mathlib.Core.Path.{◌∙◌, sym}
use lib.Ieee.{Float}
use Rattle.numbers.specs.Ops.{◌⊗◌}
use Rattle.arrays.proofs.Part.{part-all, put_all}
use Rattle.arrays.proofs.Lengths.{length-map}
use Rattle.ending.specs.End.{rescaled_of}
use Rattle.ending.proofs.scale.Goals as goal

pub returns : goal.returns
unfolding rescaled_of
returns c =
    let g = c.args in
    rw (part-all g.w.now g.p c.requires) at c.times.ensures ∙ put_all g.w.now _ (length-map (λ (v : Float). g.gamma ⊗ v) g.p g.w.now ∙ sym c.requires)
