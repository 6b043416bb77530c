use mathlib.Core.Path.{◌≡◌}
use native.Mathlib.Omega.{arith}
use lib.ListN.{length-set}
use Rattle.several.proofs.Added.{gathered-one}
use Rattle.column_moments.specs.Added.{itself, squared, rows_added}
use Rattle.column_moments.proofs.Pairs.{pair-none, column-added}
use Rattle.column_moments.proofs.add_row.Goals as goal

pub loop-j-init : goal.loop-j-init
loop-j-init c = (omega arith, pair-none _ _ _ _ _ (omega arith) (omega arith))

pub bounds-s-squares-in-loop-j : goal.bounds-s-squares-in-loop-j
bounds-s-squares-in-loop-j c = simp length-set (omega arith)

pub loop-j-preserved : goal.loop-j-preserved
loop-j-preserved c =
    let g = c.args in (
      omega arith,
      column-added g.m.now g.at g.cols 1 c.loop-j.invariant.1 (omega arith) (omega arith) (gathered-one itself _ _ _ _ _ _) (gathered-one squared _ _ _ _ _ _),
    )

pub returns : goal.returns
unfolding rows_added
returns c =
    let e : c.loop-j.j ≡ c.args.cols = omega arith in
    rw e at c.loop-j.invariant.1.is
