-- What a fit asks of a memory: it is long enough. Its sizes and places are right for that memory then. Assumes nothing.
use mathlib.Core.List.{List}
use lib.Ieee.{Float}
use Rattle.layout.specs.declared.fit.Fit.{Fit}
use Rattle.layout.specs.Slots.{HasRoom, Room}

pub room_of : (f : Fit) {s : List Float} → HasRoom f.sizes s → Room f.sizes f.places s
room_of f long = record { room = long; laid = f.laid }
