-- `answer_text::hex` ends: the inner call has one digit less to write.
use Rattle.answer_text.proofs.+hex.Given as goal

abbrev pub decreases-hex : goal.decreases-hex
decreases-hex l = l.k
