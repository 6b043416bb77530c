-- `prediction::check` meets its contract: each return is the first test that fails. Assumes nothing.
use mathlib.Core.Path.{◌≡◌, sym, ◌∙◌}
use Rattle.arrays.proofs.Scans.{opposed}
use Rattle.refusal.proofs.Sizes.{InSize, size-good, size_of}
use Rattle.prediction.proofs.Checks.{Lengths, bad-size, bad-length, good-sizes}
use Rattle.prediction.proofs.check.Goals as goal
use Rattle.prediction.proofs.check.Goals.{then-x-n-via-then-x-n, then-x-n-via-else-x-n+then-w-p, then-x-n-via-else-x-n+else-w-p+then-out-n}

pub returns-then-not-in_size : goal.returns-then-not-in_size
returns-then-not-in_size c =
    let e = sym c.in_size.ensures ∙ c.if-not-in_size.true in
    sym (bad-size _ _ _ _ _ _ (λ z. opposed _ e (size-good _ _ z)))

pub returns-then-x-n : goal.returns-then-x-n
returns-then-x-n c =
    let sized : InSize c.args.n c.args.p = size_of _ _ (sym c.in_size.ensures ∙ c.if-not-in_size.false) in
    sym
    (bad-length _ _ _ _ c.args.b _ sized (λ l. elim c.then-x-n.branch [
      | then-x-n-via-then-x-n w ↦ w.if-x-n.true l.matrix
      | then-x-n-via-else-x-n+then-w-p w ↦ w.if-w-p.true l.weights
      | then-x-n-via-else-x-n+else-w-p+then-out-n w ↦ w.if-out-n.true l.predictions
    ]))

pub values-requires : goal.values-requires
values-requires c =
    let z : InSize c.args.n c.args.p = size_of _ _ (sym c.in_size.ensures ∙ c.if-not-in_size.false) in
    record { x_len = c.if-x-n.false; w_len = c.if-w-p.false; n_bound = z.rows; p_bound = z.columns }

pub returns : goal.returns
returns c =
    let sized : InSize c.args.n c.args.p = size_of _ _ (sym c.in_size.ensures ∙ c.if-not-in_size.false) in
    let long : let g = c.args in Lengths g.n g.p g.x.now g.w.now g.out = record { matrix = c.if-x-n.false; weights = c.if-w-p.false; predictions = c.if-out-n.false } in
    c.values.ensures ∙ sym (good-sizes _ _ _ _ _ _ sized long)
