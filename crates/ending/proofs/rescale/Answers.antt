use Prim.Native.Nat.{◌<◌}
use native.Mathlib.Omega.{arith}
use Rattle.arrays.proofs.Ranges.{length_range, range-part}
use Rattle.arrays.specs.Vectors.{zip_of}
use Rattle.arrays.proofs.Turns.{made_none, array-more, array-all}
use Rattle.ending.specs.End.{rescaled_of}
use Rattle.ending.proofs.Whole.{unwritten}
use Rattle.ending.proofs.rescale.Goals as goal

pub loop-i-init : goal.loop-i-init
loop-i-init c = made_none _ _ _ _

pub loop-i-preserved : goal.loop-i-preserved
loop-i-preserved c =
    let g = c.args in
    let h : c.loop-i.i < g.p = omega (arith, length_range g.s.now g.sc g.p) in
    array-more c.loop-i.invariant _ h (rw (unwritten c.loop-i.invariant h, range-part))

pub returns : goal.returns
unfolding rescaled_of zip_of
returns c =
    let g = c.args in
    array-all c.loop-i.invariant (omega (arith, length_range g.s.now g.sc g.p)) c.requires.w_len
