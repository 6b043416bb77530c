use mathlib.Core.Path.{refl}
use native.Mathlib.Omega.{arith}
use lib.ListN.{length-set}
use Rattle.arrays.proofs.Turns.{made_none, made_all}
use Rattle.newton.specs.Newton.{zip3_of}
use Rattle.newton.proofs.Three.{three-more}
use Rattle.newton.proofs.zip3.Goals as goal

pub loop-i-init : goal.loop-i-init
loop-i-init g c = record { within = omega arith; long = refl; made = λ h e. made_none _ _ _ _ }

pub loop-i-preserved : goal.loop-i-preserved
loop-i-preserved g c =
    let m = c.loop-i.invariant in
    let pre = c.requires.places in
    record {
      within = omega arith;
      long = simp length-set m.long;
      made = λ h e. rw (e _ _ _ _ c.f.ensures) (three-more h c.args.a c.args.b c.args.c (m.made h e) (omega arith) pre.clear pre.clear2 pre.clear3);
    }

pub returns : goal.returns
unfolding zip3_of
returns g c = λ h e. made_all (c.loop-i.invariant.made h e) (omega arith)
