use mathlib.Core.Path.{◌≡◌}
use Prim.Native.Nat.{ℕ, ◌+◌, ◌*◌, ◌/◌, ◌%◌, min, ◌≤◌, ◌<◌}
use native.Mathlib.Nat.{zero-mul, mul-le-mul_right}
use native.Mathlib.Omega.{arith}
use Rattle.std.proofs.lemmas.Grind.{div_ceil_times}
use Rattle.matrices.proofs.Lengths.{row_room}
use Rattle.gram_panels.specs.Panels.{least}
use Rattle.lazy_gram.proofs.Nest.{block_start, block-turn, lie-on}
use Rattle.lazy_gram.proofs.row_block.Goals as goal

-- each block of columns begins within the matrix, and the last one ends it
inside : (p cc jb : ℕ) → 1 ≤ cc → jb < p / cc + min 1 (p % cc) → jb * cc < p
inside p cc jb h l = omega (arith, row_room jb (p / cc + min 1 (p % cc)) cc l, (div_ceil_times p cc h).1)

ended : (p cc jb : ℕ) → 1 ≤ cc → p / cc + min 1 (p % cc) ≤ jb → least p (jb * cc) ≡ p
ended p cc jb h l = omega (arith, mul-le-mul_right cc l, (div_ceil_times p cc h).0)

pub loop-jb-init : goal.loop-jb-init
loop-jb-init c = rw zero-mul (block_start _ _ _ _ _ _)

pub column-requires : goal.column-requires
column-requires c =
    let h = rw c.div_ceil-jb-end.ensures at c.loop-jb-test.true in
    record { lie = lie-on c.loop-jb.auto.s c.requires; inside = inside _ _ _ c.requires.some h }

pub loop-jb-preserved : goal.loop-jb-preserved
loop-jb-preserved c =
    let h = rw c.div_ceil-jb-end.ensures at c.loop-jb-test.true in
    block-turn c.requires c.loop-jb.jb c.loop-jb.s _ (inside _ _ _ c.requires.some h) c.loop-jb.invariant c.column.ensures

pub returns : goal.returns
returns c =
    let h = rw c.div_ceil-jb-end.ensures at c.loop-jb-test.false in
    rw (ended c.args.b.p c.args.pl.cc c.loop-jb.jb c.requires.some h) at c.loop-jb.invariant
