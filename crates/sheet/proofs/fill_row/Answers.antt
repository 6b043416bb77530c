-- `sheet::fill_row` meets its contract: a row that remains is written whole at its place. Assumes nothing.
use mathlib.Core.Path.{◌≡◌, refl, sym, ◌∙◌}
use mathlib.Core.Bool.{false}
use native.Mathlib.Omega.{arith}
use Rattle.sheet.specs.Rows.{cancelled}
use Rattle.sheet.proofs.fill_row.Goals as goal

pub returns-then-is_cancelled : goal.returns-then-is_cancelled
returns-then-is_cancelled c = rw (sym c.is_cancelled.ensures ∙ c.if-is_cancelled.true) record { value = refl; x_after = refl }

pub overflow_mul-k : goal.overflow_mul-k
overflow_mul-k c =
    let uncancelled : let g = c.args in cancelled g.b.now g.p g.i ≡ false = sym c.is_cancelled.ensures ∙ c.if-is_cancelled.false in
    omega (arith, c.requires.p_in_bounds_2 uncancelled)

pub fill_features-requires : goal.fill_features-requires
fill_features-requires c =
    let uncancelled : let g = c.args in cancelled g.b.now g.p g.i ≡ false = sym c.is_cancelled.ensures ∙ c.if-is_cancelled.false in
    record { p_in_bounds = omega arith; p_in_bounds_2 = omega (arith, c.requires.p_in_bounds_2 uncancelled) }

pub returns : goal.returns
returns c =
    let uncancelled : let g = c.args in cancelled g.b.now g.p g.i ≡ false = sym c.is_cancelled.ensures ∙ c.if-is_cancelled.false in
    rw uncancelled record { value = refl; x_after = rw c.row_at.ensures at c.fill_features.ensures }
