use mathlib.Core.Path.{refl}
use native.Mathlib.Omega.{arith}
use lib.ListN.{length-set}
use Rattle.arrays.specs.Vectors.{zip_of}
use Rattle.arrays.proofs.Turns.{made_none, zip_more, made_all}
use Rattle.arrays.proofs.vectors.zip.Goals as goal

pub loop-i-init : goal.loop-i-init
loop-i-init g c = record { within = omega arith; long = refl; made = λ h e. made_none _ _ _ _ }

pub loop-i-preserved : goal.loop-i-preserved
loop-i-preserved g c =
    let m = c.loop-i.invariant in
    record {
      within = omega arith;
      long = simp length-set m.long;
      made = λ h e. rw (e _ _ _ c.f.ensures) (zip_more h c.args.a c.args.b (m.made h e) (omega arith) c.requires.places.clear c.requires.places.clear2);
    }

pub returns : goal.returns
unfolding zip_of
returns g c = λ h e. made_all (c.loop-i.invariant.made h e) (omega arith)
