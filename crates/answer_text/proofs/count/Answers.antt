-- `answer_text::count` meets its contract. Assumes nothing.
use Rattle.answer_text.specs.Text.{count_text}
use Rattle.answer_text.proofs.Writes.{then}
use Rattle.answer_text.proofs.count.Goals as goal

pub returns : goal.returns
unfolding count_text
returns c = then c.text-a.ensures c.decimal.ensures
