-- `lazy_gram::fill_gram` meets its contract: cleared sums start from +0, and the sweep changes nothing. Assumes nothing.
use mathlib.Core.Path.{◌∙◌}
use Rattle.lazy_gram.proofs.Whole.{gram-rows, gram-clear, gram-done}
use Rattle.lazy_gram.proofs.fill_gram.Goals as goal

pub rows-requires : goal.rows-requires
rows-requires c =
    let e = c.clear_low.ensures in
    record { rows = gram-rows c.requires e; clear = gram-clear c.requires e }

pub returns : goal.returns
returns c =
    gram-done c.requires c.clear_low.ensures c.args.gg c.args.pp _ _ _ c.rows.ensures c.augment.ensures
    (c.sweep.ensures ∙ c.mirror.ensures)
