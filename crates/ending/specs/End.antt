-- The weights and the intercept that a fit hands out, as elastic_net.rs rescales them, and the scratch that is left. Definitions only.
use Rattle.std.specs.Prelude.{◌≡◌, Bool, cond, List, ◌++◌, ℕ, ◌≤◌, length, Float}
use Rattle.numbers.specs.Ops.{◌⊖◌, ◌⊗◌, ◌⊘◌}
use Rattle.arrays.specs.Sums.{plus0, mean_of, product_of}
use Rattle.arrays.specs.Vectors.{map_of, zip_of, fill_of}
use Rattle.layout.specs.declared.Sizes.{Sizes}
use Rattle.layout.specs.declared.Places.{Places}
use Rattle.layout.specs.Slots.{Store, Room, words}
use Rattle.layout.specs.Slots.{Slot.W, Slot.CENTRE, Slot.SCALE}

-- gamma * w / deviation; unnormalised gamma * w, in a branch of its own
unfoldable pub rescaled_of : Bool → Float → ℕ → List Float → List Float → List Float
rescaled_of normalise gamma p ws sc = cond normalise (zip_of (λ (w d : Float). gamma ⊗ w ⊘ d) p ws sc) (map_of (λ (w : Float). gamma ⊗ w) p ws)

-- of the weights and the deviations in the store
unfoldable pub weights_of : Sizes → Bool → Float → Store → List Float
weights_of sh normalise gamma v = rescaled_of normalise gamma sh.p (v W) (v SCALE)

-- mean(y) less the sum, from +0, of the rescaled weights times the means; unnormalised mean(y)
unfoldable pub intercept_of : Sizes → Bool → Float → List Float → Store → Float
intercept_of sh normalise gamma ys v =
    cond normalise (mean_of sh.n ys ⊖ product_of sh.p (weights_of sh normalise gamma v) (v CENTRE)) (mean_of sh.n ys)

-- +0 in every needed word, and the excess e
unfoldable pub gone : Sizes → List Float → List Float
gone sh e = fill_of plus0 (words sh) ++ e

-- scratch, n targets, and p weights to write
pub record Ends (sh : Sizes) (l : Places) (s ys ws : List Float) : Type 0 where
  pub room : Room sh l s
  pub rows : sh.n ≤ 4096
  pub targets : length ys ≡ sh.n
  pub weights : length ws ≡ sh.p
