use mathlib.Core.Path.{◌≡◌, sym}
use native.Mathlib.Omega.{arith}
use lib.Ieee.{neg, of_bits}
use Rattle.arrays.specs.Sums.{minus0, dot_of}
use Rattle.arrays.proofs.Folds.{fold-none}
use Rattle.arrays.proofs.Turns.{products-more}
use Rattle.arrays.proofs.sums.three_dots.Goals as goal

pub loop-i-init : goal.loop-i-init
unfolding neg of_bits
loop-i-init c = (omega arith, sym (fold-none _ _ _), sym (fold-none _ _ _), sym (fold-none _ _ _))

pub loop-i-preserved : goal.loop-i-preserved
loop-i-preserved c =
    let g = c.args in
    let x = g.x.now in
    let h = c.loop-i.invariant in (
      omega arith,
      products-more minus0 x g.a x g.a g.n c.loop-i.i _ (omega arith) h.1,
      products-more minus0 x g.b x g.b g.n c.loop-i.i _ (omega arith) h.2,
      products-more minus0 x g.b x g.c g.n c.loop-i.i _ (omega arith) h.3,
    )

pub returns : goal.returns
unfolding dot_of
returns c =
    let e : c.loop-i.i ≡ c.args.n = omega arith in
    record { aa_value = rw e at c.loop-i.invariant.1; bb_value = rw e at c.loop-i.invariant.2; bc_value = rw e at c.loop-i.invariant.3 }
