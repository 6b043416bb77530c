-- `c_values::write_floats` meets its contract. Assumes nothing.
use mathlib.Core.Path.{◌≡◌}
use Prim.Native.Nat.{suc, ◌+◌}
use native.Mathlib.Omega.{arith}
use native.Mathlib.Numerals.{add-one}
use lib.ListN.{length-set}
use Rattle.c_values.proofs.write_floats.Goals as goal

pub bounds-out-i-2 : goal.bounds-out-i-2
bounds-out-i-2 c = simp length-set (omega arith)

pub bounds-out-i-3 : goal.bounds-out-i-3
bounds-out-i-3 c = simp length-set (omega arith)

pub returns : goal.returns
returns c =
    let i = c.args.i in
    let e : i + 2 ≡ suc (suc i) = omega arith in
    cc (add-one i)
