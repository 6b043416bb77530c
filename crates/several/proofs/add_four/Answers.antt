-- `several::add_four` meets its contract: what it adds is read before anything is written. Assumes nothing.
use mathlib.Core.Path.{refl, ap, ◌∙◌}
use Rattle.arrays.specs.Part.{put}
use Rattle.several.proofs.Added.{added-read}
use Rattle.several.proofs.add_four.Goals as goal

pub add_products-requires : goal.add_products-requires
add_products-requires c = c.requires.four

pub returns : goal.returns
returns c = c.add_products.ensures ∙ ap (put _ _) (added-read _ _ _ _ _ _ _ _ _ _ c.four_at-x.ensures (λ k h. refl))
