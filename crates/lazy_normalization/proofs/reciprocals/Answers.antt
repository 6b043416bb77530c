-- `lazy_normalization::reciprocals` meets its contract. Assumes nothing.
use Rattle.arrays.specs.Part.{tab}
use Rattle.arrays.proofs.Part.{length-tab}
use Rattle.arrays.specs.Sums.{◌!◌}
use Rattle.arrays.specs.Vectors.{map_of}
use Rattle.std.proofs.Common.{rules}
use Rattle.layout.specs.Slots.{words}
use Rattle.layout.proofs.Slots.{start, then}
use Rattle.layout.specs.Slots.{Slot.SCALE, Slot.RECIP}
use Rattle.lazy_normalization.specs.Lazy.{reciprocal_of, recip_store}
use Rattle.lazy_normalization.proofs.reciprocals.Goals as goal

pub returns : goal.returns
unfolding recip_store words map_of
returns c =
    let g = c.args in
    let pre = c.requires in
    then g.sh (start g.sh g.s.now pre.room) RECIP (λ u. tab (λ j. reciprocal_of (u SCALE ! j)) g.sh.p) (length-tab _ _)
    (rw (pre.laid.at-recip, pre.laid.at-scale) at (c.map.ensures reciprocal_of (λ x r e. search rules)))
