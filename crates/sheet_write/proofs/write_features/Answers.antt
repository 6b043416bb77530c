use mathlib.Core.Path.{◌≡◌, refl}
use native.Mathlib.Omega.{arith}
use Rattle.big_endian.proofs.Bytes.{length-bytes}
use Rattle.sheet_write.proofs.Joined.{joined-begun, joined-put}
use Rattle.sheet_write.proofs.write_features.Goals as goal

pub loop-j-init : goal.loop-j-init
loop-j-init c = (omega arith, refl, joined-begun _ _ _)

pub loop-j-preserved : goal.loop-j-preserved
loop-j-preserved c = (omega arith, omega arith, joined-put _ _ _ 8 c.loop-j.j (λ j. length-bytes 8 _) c.loop-j.invariant.2 (omega arith) c.write_float.ensures)

pub returns : goal.returns
returns c =
    let e : c.loop-j.j ≡ c.args.p = omega arith in
    rw e at c.loop-j.invariant.2
