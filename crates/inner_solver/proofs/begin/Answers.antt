-- `inner_solver::begin` meets its contract: each call writes slots that lie apart from those that it reads. Assumes nothing.
use Rattle.layout.specs.Slots.{words}
use Rattle.layout.proofs.Slots.{start}
use Rattle.inner_solver.proofs.Rounds.{did-begin}
use Rattle.inner_solver.proofs.begin.Goals as goal

pub returns : goal.returns
unfolding words
returns c =
    did-begin c.args.fit.now.laid (start c.args.fit.now.sizes c.args.s.now c.requires)
    c.times.ensures c.sub.ensures c.copy.ensures c.precondition.ensures c.norm_2.ensures
