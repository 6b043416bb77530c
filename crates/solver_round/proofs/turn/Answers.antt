-- `solver_round::turn` meets its contract. Assumes nothing.
use Rattle.solver_round.proofs.Returns.{did-turn}
use Rattle.solver_round.proofs.turn.Goals as goal

pub shape_of-s-in-Stop : goal.shape_of-s-in-Stop
shape_of-s-in-Stop c = c.turn.auto.s

pub returns-in-Stop : goal.returns-in-Stop
returns-in-Stop c = did-turn c.args.k c.args.a c.turn.ensures c.in-Stop.is

pub shape_of-s-in-More : goal.shape_of-s-in-More
shape_of-s-in-More c = c.turn.auto.s

pub returns-in-More : goal.returns-in-More
returns-in-More c = did-turn c.args.k c.args.a c.turn.ensures c.in-More.is
