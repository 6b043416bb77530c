-- `answer_text::text` meets its contract. Assumes nothing.
use mathlib.Core.Path.{refl}
use Rattle.arrays.proofs.Ranges.{put-range}
use Rattle.answer_text.proofs.text.Goals as goal

pub returns : goal.returns
returns c = record { ends = refl; is = put-range _ _ _ c.args.s.now c.copy_from_slice.ensures.after refl c.requires }
