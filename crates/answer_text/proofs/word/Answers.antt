-- `answer_text::word` meets its contract. Assumes nothing.
use native.Mathlib.Omega.{arith}
use Rattle.answer_text.specs.Text.{word_text}
use Rattle.answer_text.proofs.Writes.{then, upto}
use Rattle.answer_text.proofs.Digits.{hex-long}
use Rattle.answer_text.proofs.word.Goals as goal

pub text-requires : goal.text-requires
text-requires c = let e = upto c.hex-b.ensures (hex-long 16 _) in omega arith

pub returns : goal.returns
unfolding word_text
returns c = then (then c.text-a.ensures c.hex-b.ensures) c.text.ensures
