-- `sheet::fill_score` meets its contract: the score of a row that remains is written at its place. Assumes nothing.
use mathlib.Core.Path.{◌≡◌, refl, sym, ◌∙◌}
use mathlib.Core.Bool.{false}
use native.Mathlib.Omega.{arith}
use Rattle.sheet.specs.Rows.{cancelled}
use Rattle.sheet.proofs.fill_score.Goals as goal

pub returns-then-is_cancelled : goal.returns-then-is_cancelled
returns-then-is_cancelled c = rw (sym c.is_cancelled.ensures ∙ c.if-is_cancelled.true) record { value = refl; y_after = refl }

pub offset_bounds-y-k : goal.offset_bounds-y-k
offset_bounds-y-k c =
    let uncancelled : let g = c.args in cancelled g.b.now g.p g.i ≡ false = sym c.is_cancelled.ensures ∙ c.if-is_cancelled.false in
    omega (arith, c.requires.k_in_bounds uncancelled)

pub bounds-y-k : goal.bounds-y-k
bounds-y-k c =
    let uncancelled : let g = c.args in cancelled g.b.now g.p g.i ≡ false = sym c.is_cancelled.ensures ∙ c.if-is_cancelled.false in
    omega (arith, c.requires.k_in_bounds uncancelled)

pub overflow_add-result : goal.overflow_add-result
overflow_add-result c =
    let uncancelled : let g = c.args in cancelled g.b.now g.p g.i ≡ false = sym c.is_cancelled.ensures ∙ c.if-is_cancelled.false in
    omega (arith, c.requires.k_in_bounds uncancelled)

pub returns : goal.returns
returns c =
    let uncancelled : let g = c.args in cancelled g.b.now g.p g.i ≡ false = sym c.is_cancelled.ensures ∙ c.if-is_cancelled.false in
    rw uncancelled record { value = refl; y_after = rw (c.float_at.ensures, c.row_at.ensures) }
