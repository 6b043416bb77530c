-- `measure::gram` meets its contract. Assumes nothing.
use Rattle.layout.proofs.Fits.{room_of}
use Rattle.beginning.proofs.Starts.{lent}
use Rattle.measure.proofs.gram.Goals as goal

pub gram-requires : goal.gram-requires
gram-requires c = lent c.args.fit.now c.requires.suits c.requires.room c.requires.some_columns c.requires.panelled c.if-fit.true

pub gram-requires-2 : goal.gram-requires-2
gram-requires-2 c = room_of c.args.fit.now c.requires.room
