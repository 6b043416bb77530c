-- `replay_fits::designs::area` meets its contract. Assumes nothing.
use Prim.Native.Nat.{ℕ, ◌*◌, ◌≤◌}
use native.Mathlib.Nat.{mul-le-mul}
use native.Mathlib.Omega.{arith}
use Rattle.replay_fits.proofs.designs.area.Goals as goal

small : (n p : ℕ) → p ≤ 64 → n * p ≤ 64 * n
small n p h =
    let same : n ≤ n = omega arith in
    let less : n * p ≤ n * 64 = mul-le-mul same h in
    omega arith

pub overflow_mul-result : goal.overflow_mul-result
overflow_mul-result c = let h = small c.args.n c.args.p c.requires.p_bound in omega arith

pub returns : goal.returns
returns c = small c.args.n c.args.p c.requires.p_bound
