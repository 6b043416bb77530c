-- `beginning::prepare` meets its contract: the two modes. Assumes nothing.
use mathlib.Core.Path.{◌∙◌}
use native.Mathlib.Omega.{arith}
use Rattle.layout.proofs.Fits.{room_of}
use Rattle.beginning.proofs.Starts.{given, lent, unstored, stored}
use Rattle.beginning.proofs.prepare.Goals as goal

pub reciprocals-requires : goal.reciprocals-requires
reciprocals-requires c = room_of c.args.fit.now c.requires.room

pub gram-requires : goal.gram-requires
gram-requires c = lent c.args.fit.now c.requires.suits (omega arith) c.requires.some_columns c.requires.panelled c.if-sh.true

pub returns-then-sh : goal.returns-then-sh
returns-then-sh c =
    let f = c.args.fit.now in
    unstored f.sizes f.normalise f.terms f.matrix.now c.args.s.now c.if-sh.true c.reciprocals.ensures c.gram.ensures

pub augment-requires : goal.augment-requires
augment-requires c =
    let h = c.requires.suits in
    record { given = given c.args.fit.now h c.requires.room; stored_value = h.stored c.if-sh.false ∙ h.all }

pub gram-requires-2 : goal.gram-requires-2
gram-requires-2 c = room_of c.args.fit.now (omega arith)

pub returns : goal.returns
returns c =
    let f = c.args.fit.now in
    stored f.sizes f.normalise f.terms f.matrix.now c.args.s.now c.if-sh.false c.augment.ensures c.gram-2.ensures
