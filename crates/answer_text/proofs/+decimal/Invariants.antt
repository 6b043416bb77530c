-- `answer_text::decimal` ends: the inner call has one digit less to write.
use Rattle.answer_text.proofs.+decimal.Given as goal

abbrev pub decreases-decimal : goal.decreases-decimal
decreases-decimal l = l.k
