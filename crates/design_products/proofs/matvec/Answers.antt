-- `design_products::matvec` meets its contract. Assumes nothing.
use Rattle.design_products.proofs.Lengths.{held_of}
use Rattle.design_products.proofs.Modes.{upward, stored-upward, lazy-rows, stored-rows}
use Rattle.design_products.proofs.matvec.Goals as goal

pub rows-requires : goal.rows-requires
rows-requires c = upward _ _ _ _ (held_of c.args.fit.now c.requires.suits c.requires.room) _ _ c.requires.p_bound c.requires.y_le_out c.requires.k_bound

pub returns-then-sh : goal.returns-then-sh
returns-then-sh c = lazy-rows _ _ _ _ (held_of c.args.fit.now c.requires.suits c.requires.room) _ _ _ _ c.if-sh.true c.rows.ensures

pub rows-requires-2 : goal.rows-requires-2
rows-requires-2 c =
    stored-upward _ _ _ _ (held_of c.args.fit.now c.requires.suits c.requires.room) _ _ c.if-sh.false c.requires.p_bound c.requires.y_le_out c.requires.k_bound

pub returns : goal.returns
returns c = stored-rows _ _ _ _ (held_of c.args.fit.now c.requires.suits c.requires.room) _ _ _ _ c.if-sh.false c.rows-2.ensures
