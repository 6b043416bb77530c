-- `lazy_columns_both::columns_both` meets its contract: one return after one pass, and one after two. Assumes nothing.
use mathlib.Core.Path.{sym, ◌∙◌}
use native.Mathlib.Omega.{arith}
use Rattle.lazy_normalization.proofs.Entries.{reads_on}
use Rattle.lazy_columns_both.proofs.Both.{in-turn}
use Rattle.lazy_columns_both.proofs.columns_both.Goals as goal

pub one_pass-requires : goal.one_pass-requires
one_pass-requires c = record { first = c.requires.reads; second = c.requires.reads_2; other = c.requires.p_in_bounds; there = sym c.all_there.ensures ∙ c.if-all_there.true }

pub returns-then-all_there : goal.returns-then-all_there
returns-then-all_there c = record { s_after = c.one_pass.ensures.s_after; y_after = c.one_pass.ensures.y_after }

pub columns-requires : goal.columns-requires
columns-requires c = c.requires.reads_2

pub copy_from-requires : goal.copy_from-requires
copy_from-requires c = record { n_in_bounds = omega arith; n_in_bounds_2 = omega arith }

pub columns-requires-2 : goal.columns-requires-2
columns-requires-2 c = reads_on c.requires.reads (omega arith)

pub returns : goal.returns
returns c =
    let both = in-turn c.requires.reads c.args.w c.args.t _ _ _ _ c.columns.ensures c.copy_from.ensures c.columns-2.ensures in
    record { s_after = both.0; y_after = both.1 }
