-- What a step may take as known of newz. Inner definitions: no promise names them.
use Rattle.std.specs.Prelude.{Bool, true, false, List, Float}
use Rattle.settings.specs.declared.Terms.{Terms}
use Rattle.layout.specs.declared.Sizes.{Sizes}
use Rattle.layout.specs.Slots.{Store}
use Rattle.duality.specs.Gap.{Known}
use Rattle.records.specs.declared.Stage.{Stage}
use Rattle.records.specs.declared.Stage.TheVariants.{Opening, Solving, Searching, Ended}

-- by the stage: only an opening reads newz
unfoldable pub KnownAt : Stage → Sizes → Terms → List Float → Bool → Store → Type 0
KnownAt Opening sh tm m b v = Known sh tm m b v
KnownAt (Solving k) sh tm m b v = Unit {0}
KnownAt (Searching j) sh tm m b v = Unit {0}
KnownAt Ended sh tm m b v = Unit {0}

-- a step of this stage is a trial
abbrev pub searched_of : Stage → Bool
searched_of Opening = false
searched_of (Solving k) = false
searched_of (Searching j) = true
searched_of Ended = false
