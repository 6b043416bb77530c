-- `column_moments::moments` meets its contract: sums of +0, rows by fours, the rows that are left, and what is made of the sums. Assumes nothing.
use Prim.Native.Nat.{◌-◌, ◌*◌, ◌/◌}
use mathlib.Core.Path.{refl}
use native.Mathlib.Omega.{arith}
use Rattle.matrices.proofs.Lengths.{rows-room}
use Rattle.column_moments.proofs.Pairs.{all-rows, moments-made}
use Rattle.column_moments.proofs.moments.Goals as goal

pub add_fours-requires : goal.add_fours-requires
add_fours-requires c =
    let g = c.args in
    let h = rows-room 0 (4 * (g.rows / 4)) g.rows g.cols (omega arith) in
    record { matrix = omega arith; few = omega arith; apart = omega arith; room = omega arith }

pub overflow_mul-n-2 : goal.overflow_mul-n-2
overflow_mul-n-2 c =
    let g = c.args in
    omega (arith, rows-room 0 (4 * (g.rows / 4)) g.rows g.cols (omega arith))

pub add_rows-requires : goal.add_rows-requires
add_rows-requires c =
    let g = c.args in
    let n = 4 * (g.rows / 4) in
    let h = rows-room n (g.rows - n) g.rows g.cols (omega arith) in
    record { matrix = omega arith; few = omega arith; apart = omega arith; room = omega arith }

pub finish_deviations-requires : goal.finish_deviations-requires
finish_deviations-requires c = record { room = omega arith; first = omega arith; second = omega arith; clear = λ _ _. refl; clear2 = λ l k. absurd (omega arith) }

pub returns : goal.returns
returns c =
    let g = c.args in
    let all = all-rows g.m.now g.rows (4 * (g.rows / 4)) (omega arith) c.requires.apart c.requires.room _ _ _ _ c.fill.ensures
    c.fill-2.ensures c.add_fours.ensures c.add_rows.ensures in
    (moments-made g.m.now g.rows g.cols _ c.float_of-d.ensures all _ _ c.finish_means.ensures c.finish_deviations.ensures).is
