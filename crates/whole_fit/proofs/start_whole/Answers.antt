-- `whole_fit::start_whole` meets its contract: past the checks it is `start`. Assumes nothing.
use Rattle.whole_fit.proofs.Returns.{passes}
use Rattle.whole_fit.proofs.start_whole.Goals as goal

pub returns : goal.returns
returns c =
    let g = c.args in
    passes g.n g.p g.x.now g.y.now g.st g.s.now g.weights c.limits.ensures c.start.result c.in_ok-limits.was c.start.ensures
