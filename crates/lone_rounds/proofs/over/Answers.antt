-- `lone_rounds::over` meets its contract. Assumes nothing.
use Rattle.lone_rounds.specs.Lone.{over_of}
use Rattle.lone_rounds.proofs.over.Goals as goal

pub returns-then-d : goal.returns-then-d
unfolding over_of
returns-then-d c = rw c.if-d.true

pub returns-else-d : goal.returns-else-d
unfolding over_of
returns-else-d c = rw c.if-d.false
