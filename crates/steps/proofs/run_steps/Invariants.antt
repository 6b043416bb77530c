-- `steps::run_steps` meets its contract. The invariant: the steps that are left give from `cur` what the budget gives from the first record, a step may take `cur`,
-- and where `known` says so, newz holds what an opening of `cur` would make. Assumes nothing.
use Prim.Native.Nat.{◌-◌, ◌≤◌}
use Rattle.steps.proofs.Loop.{Running}
use Rattle.steps.proofs.run_steps.Given as goal

abbrev pub invariant-loop-made : goal.invariant-loop-made
invariant-loop-made l =
    (l.made ≤ l.budget)
    × Running l.fit.sizes l.fit.terms l.fit.tol l.fit.matrix.now l.fit.limit l.budget l.initial.cur l.initial.s (l.budget - l.made) l.known l.cur l.s
