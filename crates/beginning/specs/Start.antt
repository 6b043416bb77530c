-- The vectors of a fresh fit. Definitions only.
use Rattle.std.specs.Prelude.{Bool, cond, List, ◌*◌, Float}
use Rattle.std.specs.Float.Ieee.{neg}
use Rattle.numbers.specs.Constants.{one}
use Rattle.arrays.specs.Sums.{plus0}
use Rattle.arrays.specs.Vectors.{fill_of}
use Rattle.settings.specs.declared.Terms.{Terms}
use Rattle.layout.specs.declared.Sizes.{Sizes}
use Rattle.layout.specs.Slots.{Store, all_of, ◌⟨◌≔◌⟩}
use Rattle.layout.specs.Slots.{Slot.U, Slot.F}
use Rattle.lazy_normalization.specs.Lazy.{recip_store}
use Rattle.lazy_gram.specs.Gram.{lazy_gram_store}
use Rattle.design.specs.Statistics.{statistics_store, targets_store}
use Rattle.design.specs.Eager.{design_store, gram_store}

-- +0, but for the bounds, which are 1, and f, which is -1
unfoldable pub blank_store : Sizes → Store
blank_store sh = all_of sh plus0 ⟨ U ≔ (λ u. fill_of one sh.p) ⟩ ⟨ F ≔ (λ u. fill_of (neg one) (2 * sh.p)) ⟩

-- the Gram, and what the products will need: the design, or the reciprocals of the scales
unfoldable pub prepared_store : Sizes → Bool → Terms → List Float → Store → Store
prepared_store sh normalise tm m v =
    cond sh.lazy (lazy_gram_store sh tm m (recip_store sh v)) (gram_store sh (design_store sh normalise tm m v))

-- a fresh fit, each part from those before it: statistics, targets, then the design and its Gram
unfoldable pub start_store : Sizes → Bool → Terms → List Float → List Float → Store
start_store sh normalise tm m ys = prepared_store sh normalise tm m (targets_store sh ys (statistics_store sh normalise m (blank_store sh)))
