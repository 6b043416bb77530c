-- `answer_text::weight` meets its contract. Assumes nothing.
use native.Mathlib.Omega.{arith}
use Rattle.answer_text.specs.Text.{weight_text}
use Rattle.answer_text.proofs.Writes.{then, upto}
use Rattle.answer_text.proofs.Lines.{count_long}
use Rattle.answer_text.proofs.weight.Goals as goal

pub word-requires : goal.word-requires
word-requires c = let a = upto c.count-a.ensures (count_long _ _) in omega arith

pub returns : goal.returns
unfolding weight_text
returns c = then c.count-a.ensures c.word.ensures
