-- `c_api::xangoravit_predict` meets its contract. Assumes nothing.
use Rattle.c_api.proofs.Calls.{predict-not-due, predict-due}
use Rattle.c_api.proofs.xangoravit_predict.Goals as goal

pub returns-then-answer-ne7 : goal.returns-then-answer-ne7
returns-then-answer-ne7 c =
    let g = c.args in
    predict-not-due g.n g.p g.x.now g.w.now g.b g.out.now g.answer.now
    c.if-answer-ne7.true c.words_refused.ensures c.number.ensures

pub write_answer-requires : goal.write_answer-requires
write_answer-requires c = c.if-answer-ne7.false

pub returns : goal.returns
returns c =
    let g = c.args in
    predict-due g.n g.p g.x.now g.w.now g.b g.out.now g.answer.now c.if-answer-ne7.false c.predict.ensures c.predicted-t.ensures
    c.no_counts.ensures c.write_answer.ensures
