-- `sheet_front::body_at` meets its contract. Assumes nothing.
use borrow.Author.Tests.{eq-eqb, ne_eqb}
use Rattle.sheet_front.proofs.body_at.Goals as goal

pub returns-then-b-eq2 : goal.returns-then-b-eq2
returns-then-b-eq2 c = rw (eq-eqb _ 2 c.if-b-eq2.true)

pub returns-else-b-eq2 : goal.returns-else-b-eq2
returns-else-b-eq2 c = rw (ne_eqb _ 2 c.if-b-eq2.false)
