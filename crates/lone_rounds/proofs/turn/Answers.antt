-- `lone_rounds::turn` meets its contract: each call's places lie apart in the eight vectors, and no call changes the scratch's length. Assumes nothing.
use Rattle.lone_rounds.proofs.Turning.{round}
use Rattle.lone_rounds.proofs.turn.Goals as goal

pub returns : goal.returns
returns c =
    let g = c.args in
    round g.n g.a.now g.s.now c.requires.room g.first g.bkden c.direct-bknum.result c.divide.ensures c.direct-bknum.ensures.0
    c.direct-bknum.ensures.1 c.columns_of.ensures c.rows_of.ensures c.advance.ensures c.divide-2.ensures g.bnrm g.tol
    c.error-err.result c.error-err.ensures c.answered.ensures
