-- `measure::measure_round` meets its contract. Assumes nothing.
use native.Mathlib.Nat.{mul-le-mul}
use native.Mathlib.Omega.{arith}
use Prim.Native.Nat.{◌≤◌}
use Rattle.layout.specs.Slots.{words}
use Rattle.measure.proofs.measure_round.Goals as goal

pub overflow_mul-p : goal.overflow_mul-p
overflow_mul-p c =
    let p = c.args.p in
    let h : p ≤ 64 = omega arith in
    omega (arith, mul-le-mul h h)

pub copy_from-requires-clause-n_in_bounds : goal.copy_from-requires-clause-n_in_bounds
unfolding words
copy_from-requires-clause-n_in_bounds c = omega (arith, c.need.ensures)

pub copy_from-requires-2-clause-n_in_bounds : goal.copy_from-requires-2-clause-n_in_bounds
unfolding words
copy_from-requires-2-clause-n_in_bounds c = omega (arith, c.need.ensures)

pub rounds-requires : goal.rounds-requires
unfolding words
rounds-requires c = omega (arith, c.need.ensures)
