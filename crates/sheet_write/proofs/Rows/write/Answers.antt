use mathlib.Core.Path.{◌≡◌, refl}
use Prim.Native.Nat.{◌+◌, ◌*◌, ◌≤◌}
use native.Mathlib.Omega.{arith}
use Rattle.matrices.proofs.Lengths.{row_room}
use Rattle.sheet_header.specs.Header.{row-bytes}
use Rattle.sheet_write.proofs.Joined.{joined-begun, joined-put}
use Rattle.sheet_write.proofs.Lengths.{row-long}
use Rattle.sheet_write.proofs.Rows.write.Goals as goal

pub loop-i-init : goal.loop-i-init
loop-i-init c = (omega arith, refl, joined-begun _ _ _)

pub overflow_mul-i : goal.overflow_mul-i
overflow_mul-i c =
    let in-features : let g = c.args in
    c.loop-i.i * g.p + g.p ≤ g.n * g.p = row_room _ _ _ c.loop-i-test.true in
    omega (arith, in-features)

pub overflow_mul-p : goal.overflow_mul-p
overflow_mul-p c =
    let in_bytes : let g = c.args in
    c.loop-i.i * row-bytes g.p + row-bytes g.p ≤ g.n * row-bytes g.p = row_room _ _ _ c.loop-i-test.true in
    omega (arith, in_bytes)

pub overflow_add-p : goal.overflow_add-p
overflow_add-p c =
    let in_bytes : let g = c.args in
    c.loop-i.i * row-bytes g.p + row-bytes g.p ≤ g.n * row-bytes g.p = row_room _ _ _ c.loop-i-test.true in
    omega (arith, in_bytes)

pub overflow_mul-i-in-loop-i : goal.overflow_mul-i-in-loop-i
overflow_mul-i-in-loop-i c =
    let in_bytes : let g = c.args in
    c.loop-i.i * row-bytes g.p + row-bytes g.p ≤ g.n * row-bytes g.p = row_room _ _ _ c.loop-i-test.true in
    omega (arith, in_bytes)

pub overflow_add-at : goal.overflow_add-at
overflow_add-at c =
    let in_bytes : let g = c.args in
    c.loop-i.i * row-bytes g.p + row-bytes g.p ≤ g.n * row-bytes g.p = row_room _ _ _ c.loop-i-test.true in
    omega (arith, in_bytes)

pub write_row-requires : goal.write_row-requires
write_row-requires c =
    let in-features : let g = c.args in
    c.loop-i.i * g.p + g.p ≤ g.n * g.p = row_room _ _ _ c.loop-i-test.true in
    let in_bytes : let g = c.args in
    c.loop-i.i * row-bytes g.p + row-bytes g.p ≤ g.n * row-bytes g.p = row_room _ _ _ c.loop-i-test.true in
    record { p_in_bounds = omega (arith, in-features); p_in_bounds_2 = omega (arith, in_bytes) }

pub loop-i-preserved : goal.loop-i-preserved
loop-i-preserved c =
    let p = c.args.p in (
      omega arith,
      omega arith,
      joined-put _ _ _ (row-bytes p) c.loop-i.i (λ i. row-long p _ _ _ _ _) c.loop-i.invariant.2 refl
          (rw (c.from.ensures, c.from-in-loop-i.ensures) at c.write_row.ensures),
    )

pub returns : goal.returns
returns c =
    let e : c.loop-i.i ≡ c.args.n = omega arith in
    rw e at c.loop-i.invariant.2
