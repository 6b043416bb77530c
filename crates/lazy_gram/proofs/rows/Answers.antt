use mathlib.Core.Path.{◌≡◌}
use Prim.Native.Nat.{◌+◌}
use native.Mathlib.Omega.{arith}
use Rattle.lazy_gram.proofs.Nest.{rows_start, rows_lie, rows-turn}
use Rattle.lazy_gram.proofs.rows.Goals as goal

pub loop-row-init : goal.loop-row-init
loop-row-init c = (omega arith, rows_start _ _ _ _ _ _ (omega (arith, c.requires.rows)) c.requires.clear)

pub row_block-requires : goal.row_block-requires
row_block-requires c = rows_lie c.requires.rows _ _ _ c.loop-row.invariant.0 (omega (arith, c.min-nr.ensures)) c.loop-row.auto.s

-- after a band with more behind it, and after the last
pub loop-row-preserved : goal.loop-row-preserved
loop-row-preserved c =
    let e : c.loop-row.row + c.min-nr.result ≡ c.loop-row.row + c.args.rr = omega (arith, c.min-nr.ensures) in
    (omega arith, rw e at (rows-turn c.requires.rows c.loop-row.invariant.0 (omega (arith, c.min-nr.ensures)) c.loop-row.s _ c.loop-row.invariant.1 c.row_block.ensures))

pub returns-2 : goal.returns-2
returns-2 c =
    let e : c.loop-row.row + c.min-nr.result ≡ c.args.n = omega (arith, c.min-nr.ensures) in
    rw e at (rows-turn c.requires.rows c.loop-row.invariant.0 (omega (arith, c.min-nr.ensures)) c.loop-row.s _ c.loop-row.invariant.1 c.row_block.ensures)

-- where there are no rows
pub returns : goal.returns
returns c =
    let e : c.loop-row.row ≡ c.args.n = omega arith in
    rw e at c.loop-row.invariant.1
