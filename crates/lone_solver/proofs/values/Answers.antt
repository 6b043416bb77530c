-- `lone_solver::values` meets its contract: the scans one after the other, then two tests. Assumes nothing.
use mathlib.Core.Path.{◌≡◌, sym, ◌∙◌}
use Prim.Native.Nat.{◌+◌, ◌*◌}
use native.Mathlib.Nat.{mul-le-mul}
use native.Mathlib.Omega.{arith}
use lib.ListN.{length}
use borrow.Author.Tests.{eq-eqb, ne_eqb}
use Rattle.std.proofs.Common.{rules}
use Rattle.refusal.proofs.Scanning.{near}
use Rattle.lone_solver.proofs.Checks.{by-scans, all-finite}
use Rattle.lone_solver.proofs.values.Goals as goal

pub at-requires : goal.at-requires
at-requires c = near _ _ 0 c.first_infinite.ensures (omega arith) (omega arith)

pub returns-in_err-at : goal.returns-in_err-at
returns-in_err-at c = rw (by-scans c.args.a.now, ← c.first_infinite.ensures, ← c.at.ensures, c.in_err-at.was) (search rules)

pub at-requires-2 : goal.at-requires-2
at-requires-2 c =
    let l = mul-le-mul c.requires.n_bound c.requires.n_bound in
    near _ _ _ c.first_infinite-2.ensures (omega arith) (omega arith)

pub returns-in_err-at-2 : goal.returns-in_err-at-2
returns-in_err-at-2 c =
    rw (by-scans c.args.a.now, ← c.first_infinite.ensures, ← c.at.ensures, c.in_ok-at.was, ← c.first_infinite-2.ensures, c.requires.a_len, ← c.at-2.ensures, c.in_err-at-2.was)
    (search rules)

pub at-requires-3 : goal.at-requires-3
at-requires-3 c =
    let l = mul-le-mul c.requires.n_bound c.requires.n_bound in
    near _ _ _ c.first_infinite-3.ensures (omega arith) (omega arith)

pub returns-in_err-at-3 : goal.returns-in_err-at-3
returns-in_err-at-3 c =
    let k : length c.args.a.now + length c.args.b.now ≡ c.args.n * c.args.n + c.args.n = rw (c.requires.a_len, c.requires.b_len) in
    rw (by-scans c.args.a.now, ← c.first_infinite.ensures, ← c.at.ensures, c.in_ok-at.was, ← c.first_infinite-2.ensures, ← c.first_infinite-3.ensures, k, c.requires.a_len, ← c.at-2.ensures, c.in_ok-at-2.was, ← c.at-3.ensures, c.in_err-at-3.was)
    (search rules)

pub returns-then-tol : goal.returns-then-tol
returns-then-tol c =
    rw (
      all-finite c.args.a.now c.args.b.now c.args.x.now c.args.tol c.args.limit _ _ _ _ _ _ _ _ c.first_infinite.ensures c.first_infinite-2.ensures c.first_infinite-3.ensures c.requires.a_len (rw (c.requires.a_len, c.requires.b_len))
          (sym c.at.ensures ∙ c.in_ok-at.was) (sym c.at-2.ensures ∙ c.in_ok-at-2.was) (sym c.at-3.ensures ∙ c.in_ok-at-3.was),
      c.if-tol.true,
    )

pub returns-then-limit-eq0 : goal.returns-then-limit-eq0
returns-then-limit-eq0 c =
    rw (
      all-finite c.args.a.now c.args.b.now c.args.x.now c.args.tol c.args.limit _ _ _ _ _ _ _ _ c.first_infinite.ensures c.first_infinite-2.ensures c.first_infinite-3.ensures c.requires.a_len (rw (c.requires.a_len, c.requires.b_len))
          (sym c.at.ensures ∙ c.in_ok-at.was) (sym c.at-2.ensures ∙ c.in_ok-at-2.was) (sym c.at-3.ensures ∙ c.in_ok-at-3.was),
      c.if-tol.false,
      eq-eqb _ _ c.if-limit-eq0.true,
    )

pub returns : goal.returns
returns c =
    rw (
      all-finite c.args.a.now c.args.b.now c.args.x.now c.args.tol c.args.limit _ _ _ _ _ _ _ _ c.first_infinite.ensures c.first_infinite-2.ensures c.first_infinite-3.ensures c.requires.a_len (rw (c.requires.a_len, c.requires.b_len))
          (sym c.at.ensures ∙ c.in_ok-at.was) (sym c.at-2.ensures ∙ c.in_ok-at-2.was) (sym c.at-3.ensures ∙ c.in_ok-at-3.was),
      c.if-tol.false,
      ne_eqb _ _ c.if-limit-eq0.false,
    )
