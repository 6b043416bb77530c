use mathlib.Core.Path.{◌≡◌, ap, ◌∙◌}
use native.Mathlib.Omega.{arith}
use lib.Ieee.{Float, nan, eq}
use Rattle.arrays.proofs.Part.{get_or-part}
use Rattle.arrays.specs.Sums.{plus0}
use Rattle.lazy_columns.proofs.There.{none_yet, one-missing, one-there}
use Rattle.lazy_columns.proofs.all_there.Goals as goal
use Rattle.lazy_columns.proofs.all_there.Goals.{then-s-rc, else-s-rc}

pub loop-j-init : goal.loop-j-init
loop-j-init c = none_yet _

pub loop-j-preserved : goal.loop-j-preserved
loop-j-preserved c =
    let g = c.args in
    let j = c.loop-j.j in
    let read = ap (λ (y : Float). eq y plus0) (get_or-part g.s.now g.rc g.p j nan c.loop-j-test.true) in
    elim c.if-s-rc.branch [
      | then-s-rc w ↦ w.good-is ∙ one-missing _ j (read ∙ w.if-s-rc.true)
      | else-s-rc w ↦ w.good-is ∙ c.loop-j.invariant ∙ one-there _ j (read ∙ w.if-s-rc.false)
    ]

pub returns : goal.returns
returns c =
    let e : c.loop-j.j ≡ c.args.p = omega arith in
    rw e at c.loop-j.invariant
