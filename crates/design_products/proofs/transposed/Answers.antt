-- `design_products::transposed` meets its contract. Assumes nothing.
use Rattle.design_products.proofs.Lengths.{held_of}
use Rattle.design_products.proofs.Modes.{downward, stored-downward, lazy-columns, stored-columns}
use Rattle.design_products.proofs.transposed.Goals as goal

pub columns-requires : goal.columns-requires
columns-requires c = downward _ _ _ _ (held_of c.args.fit.now c.requires.suits c.requires.room) _ _ c.requires.p_bound c.requires.y_le_v c.requires.k_bound

pub returns-then-sh : goal.returns-then-sh
returns-then-sh c = lazy-columns (held_of c.args.fit.now c.requires.suits c.requires.room) _ _ _ _ c.if-sh.true c.columns.ensures

pub columns-requires-2 : goal.columns-requires-2
columns-requires-2 c = stored-downward _ _ _ _ (held_of c.args.fit.now c.requires.suits c.requires.room) _ _ c.if-sh.false c.requires.p_bound c.requires.y_le_v c.requires.k_bound

pub returns : goal.returns
returns c = stored-columns (held_of c.args.fit.now c.requires.suits c.requires.room) _ _ _ _ c.if-sh.false c.columns-2.ensures
