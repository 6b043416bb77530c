-- What 1 to 4 say where none holds, and the sizes of a fit that they accept. Assumes nothing.
use Rattle.refusal.specs.declared.Refusal.{Refusal}
use Rattle.std.specs.Prelude.{Result, ⊤, Ok}
use mathlib.Core.Path.{◌≡◌, sym, ap, subst, ◌∙◌}
use mathlib.Core.Bool.{true}
use Prim.Native.Nat.{ℕ, ◌≤◌}
use lib.Dec.{T, leb}
use borrow.Author.Tests.{leb-true, eqb-true}
use Rattle.settings.specs.declared.Settings.{Settings}
use Rattle.settings.specs.Settings.{allowed_of}
use Rattle.settings.proofs.Laws.{allowed-says}
use Rattle.layout.specs.declared.Sizes.{Sizes}
use Rattle.layout.specs.Slots.{words}
use Rattle.layout.specs.Need.{sizes_of, need_of, Small}
use Rattle.layout.proofs.Laws.{need-agrees, small-sizes}
use Rattle.refusal.specs.declared.Refusal.TheVariants.{Setting, Scratch}
use Rattle.refusal.specs.Checks.{ask}
use Rattle.refusal.proofs.Asking.{both_true, ask-fine}
use Rattle.refusal.specs.Sizes.{in_size}
use Rattle.refusal.proofs.Sizes.{size_of}
use Rattle.checks.specs.Checks.{limits_of, Accepted}

module _ {n p xl yl wl : ℕ} {st : Settings} {room : ℕ} where
  pub accepted : limits_of n p xl yl wl st room ≡ Ok tt → Accepted n p xl yl wl st room
  unfolding limits_of
  accepted h =
      let h₁ = ask-fine _ _ _ h in
      let h₂ = ask-fine _ _ _ h₁.1 in
      let h₃ = ask-fine (allowed_of st) Setting (ask (leb (need_of n p st) room) Scratch (Ok tt)) h₂.1 in
      let h₄ = ask-fine _ _ _ h₃.1 in
      let s = size_of n p h₁.0 in
      let l₁ = both_true _ _ h₂.0 in
      let l₂ = both_true _ _ l₁.0 in
      record {
        some-rows = s.some-rows;
        rows = s.rows;
        some-columns = s.some-columns;
        columns = s.columns;
        matrix = eqb-true _ _ l₂.0;
        targets = eqb-true _ _ l₂.1;
        weights = eqb-true _ _ l₁.1;
        settings = subst T (sym h₃.0) tt;
        enough = leb-true _ _ h₄.0;
      }

  -- as `limits(..)?` tells it
  pub passes : (k : Result ⊤ Refusal) {u : ⊤} → k ≡ limits_of n p xl yl wl st room → k ≡ Ok u → Accepted n p xl yl wl st room
  passes k e f = accepted (sym e ∙ f)

  pub accepted-room : Accepted n p xl yl wl st room → words (sizes_of n p st) ≤ room
  accepted-room a = rw (need-agrees n p st) a.enough

-- the sizes that 1 and 3 let pass, and their need
module _ (n p : ℕ) (st : Settings) {sh : Sizes} (e : sh ≡ sizes_of n p st) where
  pub small-allowed : in_size n p ≡ true → allowed_of st ≡ true → Small sh
  small-allowed h a =
      let s = size_of n p h in
      rw e (small-sizes n p st s.rows s.columns (allowed-says st (subst T (sym a) tt)).panels)

  pub need-told : {k : ℕ} → k ≡ words sh → k ≡ need_of n p st
  need-told h = h ∙ ap words e ∙ need-agrees n p st
