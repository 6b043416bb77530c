-- `layout::need` meets its contract: sizes are small, so nothing wraps. Assumes nothing.
use mathlib.Core.Path.{refl}
use Rattle.layout.specs.Slots.{words}
use Rattle.layout.proofs.need.Goals as goal

pub returns : goal.returns
unfolding words
returns c = refl
