-- `lone_rounds::run` meets its contract: the rounds begin on +0 but for the start, and the last `fill` leaves +0 again. Assumes nothing.
use mathlib.Core.Path.{◌≡◌, ◌∙◌}
use lib.ListN.{length}
use Rattle.lone_rounds.proofs.Running.{ran}
use Rattle.lone_rounds.proofs.run.Goals as goal

pub returns : goal.returns
returns c =
    let long : length c.rounds-err.new.s ≡ length c.args.s.now = c.rounds-err.auto.s ∙ c.begin-bnrm.auto.s ∙ c.copy_from.auto.s ∙ c.fill.auto.s in
    ran c.requires c.args.tol c.fill.ensures c.copy_from.ensures c.begin-bnrm.ensures c.rounds-err.ensures long c.copy_from-2.ensures
    c.fill-2.ensures
