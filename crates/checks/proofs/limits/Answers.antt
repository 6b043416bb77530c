-- `checks::limits` meets its contract. Assumes nothing.
use mathlib.Core.Path.{sym, ◌∙◌}
use native.Mathlib.Omega.{arith}
use Rattle.std.proofs.lemmas.Grind.{common_steps}
use Rattle.checks.specs.Checks.{limits_of}
use Rattle.checks.proofs.Laws.{small-allowed, need-told}
use Rattle.checks.proofs.limits.Goals as goal

pub need-requires : goal.need-requires
need-requires c =
    small-allowed _ _ _ c.sizes_of.ensures (sym c.in_size.ensures ∙ c.if-not-in_size.false) (sym c.allowed.ensures ∙ c.if-not-allowed.false)

pub returns-then-room-need : goal.returns-then-room-need
unfolding limits_of
returns-then-room-need c =
    let needed = need-told c.args.n c.args.p c.args.st c.sizes_of.ensures c.need.ensures in
    grind (arith, common_steps, needed)

pub returns : goal.returns
unfolding limits_of
returns c =
    let needed = need-told c.args.n c.args.p c.args.st c.sizes_of.ensures c.need.ensures in
    grind (arith, common_steps, needed)
