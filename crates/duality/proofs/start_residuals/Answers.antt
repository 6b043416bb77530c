-- `duality::start_residuals` meets its contract: one return where newz is copied, one where z is made. Assumes nothing.
use Rattle.design_products.proofs.Lengths.{held_of}
use Rattle.duality.proofs.Stores.{started, copied}
use Rattle.duality.proofs.start_residuals.Goals as goal

pub returns-then-known : goal.returns-then-known
returns-then-known c = copied (held_of c.args.fit.now c.requires.suits c.requires.room) c.args.fit.now.terms c.requires.known c.if-known.true c.copy.ensures

pub returns : goal.returns
returns c = started (held_of c.args.fit.now c.requires.suits c.requires.room) c.args.fit.now.terms c.matvec.ensures c.sub.ensures
