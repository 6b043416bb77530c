-- `c_api::xangoravit_solve` meets its contract. Assumes nothing.
use Rattle.c_api.proofs.Calls.{solve-not-due, solve-due}
use Rattle.c_api.proofs.xangoravit_solve.Goals as goal

pub returns-then-answer-ne7 : goal.returns-then-answer-ne7
returns-then-answer-ne7 c =
    let g = c.args in
    solve-not-due g.n g.a.now g.b.now g.x.now g.tol g.limit g.s.now g.answer.now
    c.if-answer-ne7.true c.words_refused.ensures c.number.ensures

pub write_answer-requires : goal.write_answer-requires
write_answer-requires c = c.if-answer-ne7.false

pub returns : goal.returns
returns c =
    let g = c.args in
    solve-due g.n g.a.now g.b.now g.x.now g.tol g.limit g.s.now g.answer.now c.if-answer-ne7.false c.solve.ensures c.solved-t.ensures
    c.no_counts.ensures c.write_answer.ensures
