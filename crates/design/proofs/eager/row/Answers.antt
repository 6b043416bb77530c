-- `design::eager::row` meets its contract. Assumes nothing.
use Rattle.design.proofs.eager.row.Goals as goal

pub returns-then-normalise : goal.returns-then-normalise
returns-then-normalise c = rw c.if-normalise.true c.normal_row.ensures

pub returns-else-normalise : goal.returns-else-normalise
returns-else-normalise c = rw c.if-normalise.false c.raw_row.ensures
