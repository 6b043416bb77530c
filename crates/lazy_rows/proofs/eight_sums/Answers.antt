use mathlib.Core.Path.{◌≡◌, refl}
use native.Mathlib.Omega.{arith}
use Rattle.arrays.specs.Part.{tab}
use Rattle.several.proofs.Several.{several-none, several-more, several-turn, several-all}
use Rattle.lazy_normalization.proofs.Choice.{divided, multiplied}
use Rattle.lazy_rows.proofs.RowSums.{row-term, one_of}
use Rattle.lazy_rows.proofs.eight_sums.Goals as goal
use Rattle.lazy_rows.proofs.eight_sums.Goals.{then-by+else-loop-k-test, else-by+else-loop-k-else-by-test}

pub loop-j-init : goal.loop-j-init
unfolding tab
loop-j-init c = several-none 8 _ _ refl

pub loop-k-preserved : goal.loop-k-preserved
loop-k-preserved c =
    several-more c.loop-k.invariant _ c.loop-k-test.true
    (row-term (one_of c.requires c.loop-k.k c.loop-k-test.true) c.loop-j.j c.loop-j-test.true (divided _ _ _ _ c.if-by.true))

pub loop-k-else-by-preserved : goal.loop-k-else-by-preserved
loop-k-else-by-preserved c =
    several-more c.loop-k-else-by.invariant _ c.loop-k-else-by-test.true
    (row-term (one_of c.requires c.loop-k-else-by.k c.loop-k-else-by-test.true) c.loop-j.j c.loop-j-test.true (multiplied _ _ _ _ c.if-by.false))

pub loop-j-preserved : goal.loop-j-preserved
loop-j-preserved c =
    elim c.if-by.branch [
      | then-by+else-loop-k-test w ↦ rw w.x-is (several-turn w.loop-k.invariant (omega arith))
      | else-by+else-loop-k-else-by-test w ↦ rw w.x-is (several-turn w.loop-k-else-by.invariant (omega arith))
    ]

pub returns : goal.returns
returns c =
    let e : c.loop-j.j ≡ c.args.p = omega arith in
    several-all (rw e at c.loop-j.invariant)
