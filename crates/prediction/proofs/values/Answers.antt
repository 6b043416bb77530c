-- `prediction::values` meets its contract: the scans one after the other, then the intercept. Assumes nothing.
use mathlib.Core.Path.{sym, ◌∙◌}
use Prim.Native.Nat.{◌+◌, ◌*◌}
use native.Mathlib.Nat.{mul-le-mul}
use native.Mathlib.Omega.{arith}
use Rattle.std.proofs.Common.{rules}
use Rattle.refusal.proofs.Scanning.{near}
use Rattle.prediction.proofs.Checks.{by-scans, by-intercept}
use Rattle.prediction.proofs.values.Goals as goal

pub at-requires : goal.at-requires
at-requires c = near _ _ 0 c.first_infinite.ensures (omega arith) (omega arith)

pub returns-in_err-at : goal.returns-in_err-at
returns-in_err-at c = rw (by-scans c.args.x.now, ← c.first_infinite.ensures, ← c.at.ensures, c.in_err-at.was) (search rules)

pub at-requires-2 : goal.at-requires-2
at-requires-2 c =
    let l = mul-le-mul c.requires.n_bound c.requires.p_bound in
    near _ _ _ c.first_infinite-2.ensures (omega arith) (omega arith)

pub returns-in_err-at-2 : goal.returns-in_err-at-2
returns-in_err-at-2 c =
    rw (by-scans c.args.x.now, ← c.first_infinite.ensures, ← c.at.ensures, c.in_ok-at.was, ← c.first_infinite-2.ensures, c.requires.x_len, ← c.at-2.ensures, c.in_err-at-2.was)
    (search rules)

pub returns-then-not-finite : goal.returns-then-not-finite
returns-then-not-finite c =
    rw (
      by-intercept c.args.x.now c.args.w.now c.args.b _ _ (c.args.n * c.args.p) (c.args.n * c.args.p + c.args.p) _ _ c.first_infinite.ensures c.first_infinite-2.ensures c.requires.x_len (rw (c.requires.x_len, c.requires.w_len))
          (sym c.at.ensures ∙ c.in_ok-at.was) (sym c.at-2.ensures ∙ c.in_ok-at-2.was),
      ← c.finite.ensures,
      c.if-not-finite.true,
    )

pub returns : goal.returns
returns c =
    rw (
      by-intercept c.args.x.now c.args.w.now c.args.b _ _ (c.args.n * c.args.p) (c.args.n * c.args.p + c.args.p) _ _ c.first_infinite.ensures c.first_infinite-2.ensures c.requires.x_len (rw (c.requires.x_len, c.requires.w_len))
          (sym c.at.ensures ∙ c.in_ok-at.was) (sym c.at-2.ensures ∙ c.in_ok-at-2.was),
      ← c.finite.ensures,
      c.if-not-finite.false,
    )
