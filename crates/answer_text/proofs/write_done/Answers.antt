-- `answer_text::write_done` meets its contract: the lines before the weights have 127 bytes at most, so 2,048 hold those of the weights too. Assumes nothing.
use native.Mathlib.Omega.{arith}
use Rattle.answer_text.proofs.Writes.{upto}
use Rattle.answer_text.proofs.Lines.{end-long, counts-long, word-long, done-written}
use Rattle.answer_text.proofs.write_done.Goals as goal

pub counts-b-requires : goal.counts-b-requires
counts-b-requires c = let a = upto c.end-a.ensures (end-long _) in omega arith

pub word-c-requires : goal.word-c-requires
word-c-requires c =
    let a = upto c.end-a.ensures (end-long _) in
    let b = upto c.counts-b.ensures (counts-long _ _ _) in
    omega arith

pub weights-requires : goal.weights-requires
weights-requires c =
    let a = upto c.end-a.ensures (end-long _) in
    let b = upto c.counts-b.ensures (counts-long _ _ _) in
    let i = upto c.word-c.ensures (word-long _ _) in
    record { at_in_bounds = omega arith; w_len_bound = omega arith }

pub returns : goal.returns
returns c =
    done-written _ _ _ _ _ _ c.if-w-gt64.false c.if-out-lt2048.false
    c.end-a.ensures c.counts-b.ensures c.word-c.ensures c.weights.ensures
