-- `lone_solver::check` meets its contract: each return is the first test that fails. Assumes nothing.
use mathlib.Core.Path.{sym, ◌∙◌}
use native.Mathlib.Omega.{arith}
use Rattle.arrays.proofs.Scans.{opposed}
use Rattle.lone_solver.proofs.Checks.{InSize, Lengths, Settled, bad-size, bad-length, bad-setting, bad-scratch, good-sizes}
use Rattle.lone_solver.proofs.check.Goals as goal
use Rattle.lone_solver.proofs.check.Goals.{then-n-lt1-via-then-n-lt1, then-n-lt1-via-else-n-lt1+then-n-gt64}
use Rattle.lone_solver.proofs.check.Goals.{then-a-n-via-then-a-n, then-a-n-via-else-a-n+then-b-n, then-a-n-via-else-a-n+else-b-n+then-x-n}
use Rattle.lone_solver.proofs.check.Goals.{then-limit-gt5000-via-then-limit-gt5000, then-limit-gt5000-via-else-limit-gt5000+then-not-finite}

pub returns-then-n-lt1 : goal.returns-then-n-lt1
returns-then-n-lt1 c =
    sym
    (bad-size c.args.n c.args.a.now c.args.b.now c.args.x.now c.args.tol c.args.limit c.args.room (λ z. elim c.then-n-lt1.branch [
      | then-n-lt1-via-then-n-lt1 w ↦ omega (arith, z.least, w.if-n-lt1.true)
      | then-n-lt1-via-else-n-lt1+then-n-gt64 w ↦ omega (arith, z.most, w.if-n-gt64.true)
    ]))

pub returns-then-a-n : goal.returns-then-a-n
returns-then-a-n c =
    let z : InSize c.args.n = record { least = omega arith; most = omega arith } in
    sym
    (bad-length _ _ _ _ c.args.tol c.args.limit c.args.room z (λ l. elim c.then-a-n.branch [
      | then-a-n-via-then-a-n w ↦ w.if-a-n.true l.matrix
      | then-a-n-via-else-a-n+then-b-n w ↦ w.if-b-n.true l.right
      | then-a-n-via-else-a-n+else-b-n+then-x-n w ↦ w.if-x-n.true l.start
    ]))

pub returns-then-limit-gt5000 : goal.returns-then-limit-gt5000
returns-then-limit-gt5000 c =
    let z : InSize c.args.n = record { least = omega arith; most = omega arith } in
    let l : Lengths c.args.n c.args.a.now c.args.b.now c.args.x.now = record { matrix = c.if-a-n.false; right = c.if-b-n.false; start = c.if-x-n.false } in
    sym
    (bad-setting _ _ _ _ _ _ c.args.room z l (λ t. elim c.then-limit-gt5000.branch [
      | then-limit-gt5000-via-then-limit-gt5000 w ↦ omega (arith, t.rounds, w.if-limit-gt5000.true)
      | then-limit-gt5000-via-else-limit-gt5000+then-not-finite w ↦ opposed _ (sym w.finite.ensures ∙ w.if-not-finite.true) t.tolerance
    ]))

pub returns-then-room-n : goal.returns-then-room-n
returns-then-room-n c =
    let z : InSize c.args.n = record { least = omega arith; most = omega arith } in
    let l : Lengths c.args.n c.args.a.now c.args.b.now c.args.x.now = record { matrix = c.if-a-n.false; right = c.if-b-n.false; start = c.if-x-n.false } in
    let t : Settled c.args.tol c.args.limit = record { rounds = omega arith; tolerance = sym c.finite.ensures ∙ c.if-not-finite.false } in
    sym (bad-scratch _ _ _ _ _ _ _ z l t (omega arith))

pub returns : goal.returns
returns c =
    let z : InSize c.args.n = record { least = omega arith; most = omega arith } in
    let l : Lengths c.args.n c.args.a.now c.args.b.now c.args.x.now = record { matrix = c.if-a-n.false; right = c.if-b-n.false; start = c.if-x-n.false } in
    let t : Settled c.args.tol c.args.limit = record { rounds = omega arith; tolerance = sym c.finite.ensures ∙ c.if-not-finite.false } in
    c.values.ensures ∙ sym (good-sizes (record { sizes = z; lengths = l; settings = t; scratch = omega arith }))
