-- `c_answers::refuse` meets its contract. Assumes nothing.
use Rattle.refusal.specs.Sizes.{in_size}
use Rattle.c_answers.proofs.Unread.{answer-written, answer-left}
use Rattle.c_answers.proofs.refuse.Goals as goal

pub write_answer-requires : goal.write_answer-requires
write_answer-requires c = c.if-answer-eq7.true

pub shape_of-answer : goal.shape_of-answer
shape_of-answer c = c.write_answer.auto.out

pub returns-then-answer-eq7 : goal.returns-then-answer-eq7
returns-then-answer-eq7 c =
    let g = c.args in
    answer-written (in_size g.n g.p) g.c g.answer.now c.if-answer-eq7.true c.words_refused.ensures c.refused-t.ensures c.write_answer.ensures

pub returns-else-answer-eq7 : goal.returns-else-answer-eq7
returns-else-answer-eq7 c =
    let g = c.args in
    answer-left (in_size g.n g.p) g.c g.answer.now c.if-answer-eq7.false c.words_refused.ensures c.refused-t.ensures
