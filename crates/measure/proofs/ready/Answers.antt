-- `measure::ready` meets its contract: lengths do not change. Assumes nothing.
use native.Mathlib.Omega.{arith}
use Rattle.layout.proofs.Fits.{room_of}
use Rattle.beginning.proofs.Starts.{given}
use Rattle.measure.proofs.ready.Goals as goal

pub statistics-requires : goal.statistics-requires
statistics-requires c = given c.args.fit.now c.requires.suits c.requires.room

pub reciprocals-requires : goal.reciprocals-requires
reciprocals-requires c = room_of c.args.fit.now (omega arith)
