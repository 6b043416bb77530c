-- `logarithm::series` is `series_of`, operation for operation. Assumes nothing.
use mathlib.Core.Path.{refl}
use Rattle.logarithm.specs.Log.{series_of}
use Rattle.logarithm.proofs.series.Goals as goal

pub returns : goal.returns
unfolding series_of
returns c = refl
