use mathlib.Core.Path.{sym, ◌∙◌}
use Rattle.std.proofs.lemmas.Result.{err_from_is_err_and}
use Rattle.sheet.proofs.Rows.{row-passed, row-refused, none_left}
use Rattle.sheet_write.proofs.Rows.pairs_check.Goals as goal

pub returns-in_err-pair_check : goal.returns-in_err-pair_check
returns-in_err-pair_check c =
    let w = c.pair_check in
    let q = c.in_err-pair_check.was in
    let p = err_from_is_err_and c.from_residual.result c.from_residual.ensures.1 in
    rw (p.1, p.2) (sym q ∙ sym (c.loop-i.invariant ∙ row-refused _ _ _ _ _ c.loop-i-test.true w.result w.ensures q))

pub loop-i-preserved : goal.loop-i-preserved
loop-i-preserved c =
    let w = c.pair_check in
    c.loop-i.invariant ∙ row-passed _ _ _ _ _ c.loop-i-test.true w.result w.ensures c.in_ok-pair_check.was

pub returns : goal.returns
returns c = sym (c.loop-i.invariant ∙ none_left _ _ _ _ _ c.loop-i-test.false)
