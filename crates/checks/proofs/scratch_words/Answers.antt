-- `checks::scratch_words` meets its contract. Assumes nothing.
use mathlib.Core.Path.{sym, ◌∙◌}
use native.Mathlib.Omega.{arith}
use Rattle.std.proofs.lemmas.Grind.{common_steps}
use Rattle.checks.specs.Checks.{scratch_words}
use Rattle.checks.proofs.Laws.{small-allowed, need-told}
use Rattle.checks.proofs.scratch_words.Goals as goal

pub need-requires : goal.need-requires
need-requires c =
    small-allowed _ _ _ c.sizes_of.ensures (sym c.in_size.ensures ∙ c.if-in_size.true) (sym c.allowed.ensures ∙ c.if-allowed.true)

pub returns-then-allowed : goal.returns-then-allowed
unfolding scratch_words
returns-then-allowed c =
    let needed = need-told c.args.n c.args.p c.args.st c.sizes_of.ensures c.need.ensures in
    grind (arith, common_steps, needed)
