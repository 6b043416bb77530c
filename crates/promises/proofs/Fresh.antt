-- A fresh fit: its weights are +0 and its bounds 1, so they are within. Assumes nothing.
use Prim.Native.Nat.{ℕ}
use mathlib.Core.Path.{◌≡◌, refl}
use mathlib.Core.Bool.{Bool, true, false, cond}
use mathlib.Core.List.{List}
use lib.Ieee.{Float}
use Rattle.numbers.specs.Constants.{one}
use Rattle.arrays.specs.Sums.{plus0}
use Rattle.arrays.specs.Vectors.{fill_of}
use Rattle.settings.specs.declared.Terms.{Terms}
use Rattle.layout.specs.declared.Sizes.{Sizes}
use Rattle.layout.specs.Store.{upd}
use Rattle.layout.specs.Slots.{Store, ◌⟨◌≔◌⟩}
use Rattle.layout.specs.Slots.{Slot.W, Slot.U}
use Rattle.lazy_normalization.specs.Lazy.{recip_store}
use Rattle.lazy_gram.specs.Gram.{lazy_gram_store}
use Rattle.design.specs.Statistics.{statistics_store, targets_store}
use Rattle.design.specs.Eager.{design_store, gram_store}
use Rattle.beginning.specs.Start.{blank_store, prepared_store, start_store}

-- weights of +0, and bounds of 1
pub record FreshIn (p : ℕ) (v : Store) : Type 0 where
  pub zeros : v W ≡ fill_of plus0 p
  pub ones : v U ≡ fill_of one p

module _ (sh : Sizes) where
  blank-fresh : FreshIn sh.p (blank_store sh)
  unfolding blank_store ◌⟨◌≔◌⟩ upd
  blank-fresh = record { zeros = refl; ones = refl }

  statistics-fresh : (normalise : Bool) (m : List Float) (v : Store) → FreshIn sh.p v → FreshIn sh.p (statistics_store sh normalise m v)
  unfolding statistics_store ◌⟨◌≔◌⟩ upd
  statistics-fresh normalise m v h = record { zeros = h.zeros; ones = h.ones }

  targets_fresh : (ys : List Float) (v : Store) → FreshIn sh.p v → FreshIn sh.p (targets_store sh ys v)
  unfolding targets_store ◌⟨◌≔◌⟩ upd
  targets_fresh ys v h = record { zeros = h.zeros; ones = h.ones }

  module _ (normalise : Bool) (tm : Terms) (m : List Float) where
    lazy-fresh : (v : Store) → FreshIn sh.p v → FreshIn sh.p (lazy_gram_store sh tm m (recip_store sh v))
    unfolding lazy_gram_store recip_store ◌⟨◌≔◌⟩ upd
    lazy-fresh v h = record { zeros = h.zeros; ones = h.ones }

    eager-fresh : (v : Store) → FreshIn sh.p v → FreshIn sh.p (gram_store sh (design_store sh normalise tm m v))
    unfolding gram_store design_store ◌⟨◌≔◌⟩ upd
    eager-fresh v h = record { zeros = h.zeros; ones = h.ones }

    prepared-fresh : (v : Store) → FreshIn sh.p v → FreshIn sh.p (prepared_store sh normalise tm m v)
    unfolding prepared_store
    prepared-fresh v h = go sh.lazy where
      go : (b : Bool) → FreshIn sh.p (cond b (lazy_gram_store sh tm m (recip_store sh v)) (gram_store sh (design_store sh normalise tm m v)))
      go true = lazy-fresh v h
      go false = eager-fresh v h

    pub start-fresh : (ys : List Float) → FreshIn sh.p (start_store sh normalise tm m ys)
    unfolding start_store
    start-fresh ys = prepared-fresh _ (targets_fresh ys _ (statistics-fresh normalise m _ blank-fresh))
