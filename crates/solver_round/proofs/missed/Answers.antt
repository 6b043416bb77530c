-- `solver_round::missed` meets its contract. The branch's test is found by `cc`, so that another answer is refused for what it says. Assumes nothing.
use Rattle.solver_round.proofs.Returns.{missed-before, not-before}
use Rattle.solver_round.proofs.missed.Goals as goal

pub returns-then-a : goal.returns-then-a
returns-then-a c = missed-before _ (cc)

pub returns : goal.returns
returns c = not-before _ (cc)
