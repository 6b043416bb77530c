-- `inner_solver::turn` meets its contract: each call writes slots that lie apart from those that it reads. Assumes nothing.
use mathlib.Core.Path.{◌≡◌, ◌∙◌}
use native.Mathlib.Omega.{arith}
use lib.ListN.{length}
use Rattle.layout.proofs.Fits.{room_of}
use Rattle.layout.specs.Slots.{words}
use Rattle.layout.proofs.Slots.{start}
use Rattle.inner_solver.proofs.Rounds.{did-turn}
use Rattle.inner_solver.proofs.turn.Goals as goal

pub error-err-requires : goal.error-err-requires
error-err-requires c =
    let len : length c.precondition-2.new.s ≡ length c.args.s.now = c.precondition-2.auto.s ∙ c.advance.auto.s ∙ c.times-2.auto.s ∙ c.times.auto.s ∙ c.direct-bknum.auto.s ∙ c.precondition.auto.s in
    let r = room_of c.args.fit.now c.requires in
    let l = r.laid.at-r in
    let e = len in
    omega arith

pub shape_of-s : goal.shape_of-s
shape_of-s c =
    let len : length c.precondition-2.new.s ≡ length c.args.s.now = c.precondition-2.auto.s ∙ c.advance.auto.s ∙ c.times-2.auto.s ∙ c.times.auto.s ∙ c.direct-bknum.auto.s ∙ c.precondition.auto.s in
    len

pub returns : goal.returns
unfolding words
returns c =
    did-turn c.args.fit.now.laid (start c.args.fit.now.sizes c.args.s.now c.requires)
    c.precondition.ensures c.direct-bknum.ensures.0 c.direct-bknum.ensures.1 c.times.ensures c.times-2.ensures
    c.advance.ensures c.precondition-2.ensures c.error-err.ensures c.answered.ensures
