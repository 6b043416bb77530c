-- `duality::shrink` meets its contract. Assumes nothing.
use Rattle.layout.proofs.Fits.{room_of}
use Rattle.duality.proofs.Stores.{shrunk, unshrunk}
use Rattle.duality.proofs.shrink.Goals as goal

pub returns-then-most-fit : goal.returns-then-most-fit
returns-then-most-fit c = shrunk (room_of c.args.fit.now c.requires) c.args.fit.now.terms c.args.most c.if-most-fit.true c.times.ensures

pub returns : goal.returns
returns c = unshrunk (room_of c.args.fit.now c.requires) c.args.fit.now.terms c.args.most c.if-most-fit.false
