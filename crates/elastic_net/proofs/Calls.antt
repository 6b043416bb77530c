-- What a call that is not refused by 1 to 4 may lend to the parts of a fit. Assumes nothing.
use mathlib.Core.Path.{◌≡◌, sym, subst}
use mathlib.Core.List.{List}
use Prim.Native.Nat.{ℕ, ◌≤◌}
use lib.ListN.{length}
use lib.Ieee.{Float}
use Rattle.settings.specs.declared.Settings.{Settings}
use Rattle.settings.proofs.Laws.{allowed-says}
use Rattle.layout.specs.declared.Sizes.{Sizes}
use Rattle.layout.specs.Slots.{HasRoom, words}
use Rattle.layout.specs.Need.{sizes_of}
use Rattle.checks.specs.Checks.{Accepted}
use Rattle.layout.proofs.Laws.{SizesAre, sizes-known}
use Rattle.checks.proofs.Laws.{accepted-room}

module _ {n p xl yl wl sl : ℕ} {st : Settings} (a : Accepted n p xl yl wl st sl) where
  pub few-rounds : st.max_iter ≤ 1000
  few-rounds = (allowed-says st a.settings).max_iter

  module _ {sh : Sizes} (q : sh ≡ sizes_of n p st) where
    pub known : SizesAre n p sh
    known = subst (SizesAre n p) (sym q) (sizes-known n p st)

    enough : words sh ≤ sl
    enough = subst (λ (z : Sizes). words z ≤ sl) (sym q) (accepted-room a)

    -- the lent scratch, and every one that is as long
    pub has-room : (s : List Float) → length s ≡ sl → HasRoom sh s
    unfolding words
    has-room s e = rw e enough
