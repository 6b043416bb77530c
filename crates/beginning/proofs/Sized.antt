-- Every vector of a fresh fit has its size. Assumes nothing.
use mathlib.Core.Path.{◌≡◌, refl, sym, ap, ◌∙◌}
use mathlib.Core.Bool.{Bool, true, false, cond}
use mathlib.Core.List.{List}
use Prim.Native.Nat.{ℕ, ◌+◌, ◌*◌}
use lib.ListN.{length}
use lib.Ieee.{Float}
use Rattle.arrays.proofs.Part.{length-tab}
use Rattle.arrays.specs.Sums.{plus0}
use Rattle.arrays.proofs.Lengths.{length-map, length-fill}
use Rattle.matrices.proofs.Grid.{length-grid}
use Rattle.settings.specs.declared.Terms.{Terms}
use Rattle.layout.specs.declared.Sizes.{Sizes}
use Rattle.layout.specs.Slots.{Slot, Store, size}
use Rattle.layout.proofs.Slots.{upd-sized}
use Rattle.layout.specs.Slots.{Slot.U, Slot.F, Slot.CENTRE, Slot.SCALE, Slot.RECIP, Slot.LEFT, Slot.RIGHT, Slot.GRAM, Slot.Y, Slot.DESIGN}
use Rattle.lazy_normalization.specs.Lazy.{recip_store}
use Rattle.lazy_gram.specs.Gram.{lazy_gram_store}
use Rattle.lazy_gram.proofs.Whole.{length-lazy-gram}
use Rattle.design.specs.Statistics.{centred_of, statistics_store, targets_store}
use Rattle.design.specs.Eager.{design_of, design_store, gram_of, gram_store}
use Rattle.design.proofs.Lengths.{length-centres, length-scales}
use Rattle.beginning.specs.Start.{blank_store, prepared_store, start_store}

module _ (sh : Sizes) where
  abbrev Sized : Store → Type 0
  Sized v = (s : Slot) → length (v s) ≡ size sh s

  blank-sized : Sized (blank_store sh)
  unfolding blank_store
  blank-sized = upd-sized sh _ F _ (upd-sized sh _ U _ (λ s. length-fill plus0 (size sh s)) (length-fill _ _)) (length-fill _ _)

  statistics-sized : (normalise : Bool) (m : List Float) (v : Store) → Sized v → Sized (statistics_store sh normalise m v)
  unfolding statistics_store
  statistics-sized normalise m v z = upd-sized sh _ SCALE _ (upd-sized sh v CENTRE _ z (length-centres _ _ _ _)) (length-scales _ _ _ _)

  recip-sized : (v : Store) → Sized v → Sized (recip_store sh v)
  unfolding recip_store
  recip-sized v z = upd-sized sh v RECIP _ z (length-tab _ _)

  lazy-gram-sized : (tm : Terms) (m : List Float) (v : Store) → Sized v → Sized (lazy_gram_store sh tm m v)
  unfolding lazy_gram_store
  lazy-gram-sized tm m v z =
      upd-sized sh _ GRAM _ (upd-sized sh _ RIGHT _ (upd-sized sh v LEFT _ z (length-fill _ _)) (length-fill _ _)) (length-lazy-gram _ _ _ _ _ _)

  gram-sized : (v : Store) → Sized v → Sized (gram_store sh v)
  unfolding gram_store gram_of
  gram-sized v z = upd-sized sh v GRAM _ z (length-grid _ sh.p sh.p)

  module _ (all : sh.k ≡ sh.n + sh.p) where
    targets-sized : (ys : List Float) (v : Store) → Sized v → Sized (targets_store sh ys v)
    unfolding targets_store centred_of
    targets-sized ys v z = upd-sized sh v Y _ z (length-map _ _ _ ∙ sym all)

    module _ (stored : sh.lazy ≡ false → sh.stored ≡ sh.k) (normalise : Bool) (tm : Terms) (m : List Float) where
      design-sized : (v : Store) → sh.lazy ≡ false → Sized v → Sized (design_store sh normalise tm m v)
      unfolding design_store design_of
      design-sized v some z =
          upd-sized sh v DESIGN _ z (length-grid _ (sh.n + sh.p) sh.p ∙ ap (λ (x : ℕ). x * sh.p) (sym all ∙ sym (stored some)))

      prepared-sized : (v : Store) → Sized v → Sized (prepared_store sh normalise tm m v)
      unfolding prepared_store
      prepared-sized v z s = go sh.lazy refl where
        go : (b : Bool) → sh.lazy ≡ b → length (cond b (lazy_gram_store sh tm m (recip_store sh v)) (gram_store sh (design_store sh normalise tm m v)) s) ≡ size sh s
        go true q = lazy-gram-sized tm m (recip_store sh v) (recip-sized v z) s
        go false q = gram-sized (design_store sh normalise tm m v) (design-sized v q z) s

-- with sizes of a fit: a stored design has all n + p rows
pub start-sized : (sh : Sizes) (normalise : Bool) (tm : Terms) (m ys : List Float) → sh.k ≡ sh.n + sh.p → (sh.lazy ≡ false → sh.stored ≡ sh.k)
    → (s : Slot) → length (start_store sh normalise tm m ys s) ≡ size sh s
unfolding start_store
start-sized sh normalise tm m ys all stored =
    prepared-sized sh all stored normalise tm m _ (targets-sized sh all ys _ (statistics-sized sh normalise m _ (blank-sized sh)))
