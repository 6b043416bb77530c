-- `newton_step::barrier` meets its contract. Assumes nothing.
use Rattle.layout.specs.Slots.{words}
use Rattle.layout.proofs.Slots.{start}
use Rattle.newton_step.proofs.Stores.{barrier-left}
use Rattle.newton_step.proofs.barrier.Goals as goal

pub returns : goal.returns
unfolding words
returns c =
    barrier-left c.args.fit.now.laid (start c.args.fit.now.sizes c.args.s.now c.requires) c.args.t
    c.over_sum.ensures c.over_difference.ensures c.sum_of_squares.ensures c.difference_of_squares.ensures
