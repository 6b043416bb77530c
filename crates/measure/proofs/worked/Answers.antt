-- `measure::worked` meets its contract. Assumes nothing.
use Rattle.beginning.proofs.Starts.{given}
use Rattle.measure.proofs.worked.Goals as goal

pub statistics-requires : goal.statistics-requires
statistics-requires c = given c.args.fit.now c.requires.suits c.requires.room
