-- `checks::start_values` meets its contract: the scans one after the other. Assumes nothing.
use mathlib.Core.Path.{sym, ◌∙◌}
use native.Mathlib.Nat.{mul-le-mul}
use native.Mathlib.Omega.{arith}
use Rattle.std.proofs.Common.{rules}
use Rattle.refusal.proofs.Scanning.{near}
use Rattle.checks.proofs.Values.{by-scans, all-finite}
use Rattle.checks.proofs.start_values.Goals as goal

pub at-requires : goal.at-requires
at-requires c = near _ _ 0 c.first_infinite.ensures (omega arith) (omega arith)

pub returns-in_err-at : goal.returns-in_err-at
returns-in_err-at c = rw (by-scans c.args.x.now, ← c.first_infinite.ensures, ← c.at.ensures, c.in_err-at.was) (search rules)

pub at-requires-2 : goal.at-requires-2
at-requires-2 c =
    let l = mul-le-mul c.requires.rows c.requires.columns in
    near _ _ _ c.first_infinite-2.ensures (omega arith) (omega arith)

pub returns-in_err-at-2 : goal.returns-in_err-at-2
returns-in_err-at-2 c =
    rw (by-scans c.args.x.now, ← c.first_infinite.ensures, ← c.at.ensures, c.in_ok-at.was, ← c.first_infinite-2.ensures, c.requires.matrix, ← c.at-2.ensures, c.in_err-at-2.was)
    (search rules)

pub returns-then-not-normalise : goal.returns-then-not-normalise
returns-then-not-normalise c =
    rw (all-finite c.args.x.now c.args.y.now c.args.n c.args.p c.args.normalise _ _ _ _ _ c.first_infinite.ensures c.first_infinite-2.ensures c.requires.matrix (sym c.at.ensures ∙ c.in_ok-at.was) (sym c.at-2.ensures ∙ c.in_ok-at-2.was), c.if-not-normalise.true)

pub returns-in-Some : goal.returns-in-Some
returns-in-Some c =
    rw (all-finite c.args.x.now c.args.y.now c.args.n c.args.p c.args.normalise _ _ _ _ _ c.first_infinite.ensures c.first_infinite-2.ensures c.requires.matrix (sym c.at.ensures ∙ c.in_ok-at.was) (sym c.at-2.ensures ∙ c.in_ok-at-2.was), c.if-not-normalise.false, ← c.first_constant.ensures, c.in-Some.is)

pub returns-in-None : goal.returns-in-None
returns-in-None c =
    rw (all-finite c.args.x.now c.args.y.now c.args.n c.args.p c.args.normalise _ _ _ _ _ c.first_infinite.ensures c.first_infinite-2.ensures c.requires.matrix (sym c.at.ensures ∙ c.in_ok-at.was) (sym c.at-2.ensures ∙ c.in_ok-at-2.was), c.if-not-normalise.false, ← c.first_constant.ensures, c.in-None.is)
