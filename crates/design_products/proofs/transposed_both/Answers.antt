-- `design_products::transposed_both` meets its contract: the places are those of two single products. Assumes nothing.
use Rattle.design_products.proofs.Lengths.{held_of}
use Rattle.design_products.proofs.Modes.{downward, stored-downward, lazy-columns, stored-columns}
use Rattle.design_products.proofs.transposed_both.Goals as goal

pub columns_both-requires : goal.columns_both-requires
columns_both-requires c =
    let out = c.requires.p_bound in
    record { reads = downward _ _ _ _ (held_of c.args.fit.now c.requires.suits c.requires.room) _ _ out c.requires.y_le_v c.requires.k_bound; reads_2 = downward _ _ _ _ (held_of c.args.fit.now c.requires.suits c.requires.room) _ _ out c.requires.y_le_w c.requires.k_bound_2; p_in_bounds = c.requires.p_in_bounds }

pub returns-then-sh : goal.returns-then-sh
returns-then-sh c =
    let z = c.if-sh.true in
    record { s_after = lazy-columns (held_of c.args.fit.now c.requires.suits c.requires.room) _ _ _ _ z c.columns_both.ensures.s_after; t_after = lazy-columns (held_of c.args.fit.now c.requires.suits c.requires.room) _ _ _ _ z c.columns_both.ensures.y_after }

pub columns_both-requires-2 : goal.columns_both-requires-2
columns_both-requires-2 c =
    let lazy = c.if-sh.false in
    let out = c.requires.p_bound in
    record { together = stored-downward _ _ _ _ (held_of c.args.fit.now c.requires.suits c.requires.room) _ _ lazy out c.requires.y_le_v c.requires.k_bound; together_2 = stored-downward _ _ _ _ (held_of c.args.fit.now c.requires.suits c.requires.room) _ _ lazy out c.requires.y_le_w c.requires.k_bound_2; cols_in_bounds = c.requires.p_in_bounds }

pub returns : goal.returns
returns c =
    let z = c.if-sh.false in
    record { s_after = stored-columns (held_of c.args.fit.now c.requires.suits c.requires.room) _ _ _ _ z c.columns_both-2.ensures.s_after; t_after = stored-columns (held_of c.args.fit.now c.requires.suits c.requires.room) _ _ _ _ z c.columns_both-2.ensures.t_after }
