-- What the calls of a start ask, and what they leave together, over the store. Assumes nothing.
use mathlib.Core.Path.{◌≡◌, sym, ap, subst, ◌∙◌}
use mathlib.Core.Bool.{Bool, true, false, cond}
use mathlib.Core.List.{List}
use Prim.Native.Nat.{ℕ, ◌*◌, ◌≤◌}
use native.Mathlib.Nat.{mul-le-mul}
use native.Mathlib.Omega.{arith}
use lib.Ieee.{Float, neg}
use Rattle.numbers.specs.Constants.{one}
use Rattle.arrays.specs.Part.{put}
use Rattle.arrays.specs.Sums.{plus0}
use Rattle.arrays.specs.Vectors.{fill_of}
use Rattle.arrays.proofs.Lengths.{length-fill}
use Rattle.settings.specs.declared.Terms.{Terms}
use Rattle.layout.specs.declared.Sizes.{Sizes}
use Rattle.layout.specs.declared.Places.{Places}
use Rattle.layout.specs.declared.fit.Fit.{Fit}
use Rattle.layout.proofs.Fits.{room_of}
use Rattle.layout.specs.Slots.{Store, Has, HasRoom, Suits, Panelled, Laid, vars, rest, words}
use Rattle.layout.proofs.Slots.{then, next, cleared-of}
use Rattle.layout.specs.Slots.{Slot.U, Slot.F}
use Rattle.lazy_normalization.specs.Lazy.{recip_store}
use Rattle.lazy_gram.specs.Gram.{lazy_gram_store, Lent}
use Rattle.design.specs.Statistics.{Given}
use Rattle.design.specs.Eager.{design_store, gram_store}
use Rattle.beginning.specs.Start.{blank_store, prepared_store}

module _ (f : Fit) {s : List Float} (suits : Suits f.sizes f.matrix.now) (long : HasRoom f.sizes s) where
  pub given : Given f.sizes f.places f.matrix.now s
  given = record { room = room_of f long; matrix = suits.matrix; rows = suits.rows; columns = suits.columns }

  pub lent : 1 ≤ f.sizes.p → Panelled f.sizes → f.sizes.lazy ≡ true → Lent f.sizes f.places f.matrix.now s
  lent some panels z =
      let least : f.sizes.n ≤ f.sizes.n = omega arith in
      let few : f.sizes.n * 1 ≤ f.sizes.n * f.sizes.p = mul-le-mul least some in
      record {
        room = room_of f long;
        matrix = suits.matrix;
        rows = omega (arith, few, suits.matrix);
        columns = some;
        panel-rows = panels.rows z;
        panel-columns = panels.columns z;
        small = omega (arith, suits.rows, suits.columns);
      }

pub blanked : {sh : Sizes} {l : Places} {e : List Float} {v : Store} {m m₁ m₂ m₃ : List Float} {need : ℕ} → Laid sh l → Has sh e v m → need ≡ words sh
    → m₁ ≡ put m 0 (fill_of plus0 need) → m₂ ≡ put m₁ l.u (fill_of one sh.p) → m₃ ≡ put m₂ l.f (fill_of (neg one) (2 * sh.p))
    → Has sh e (blank_store sh) m₃
unfolding blank_store
blanked {sh} {m = m} {m₁ = m₁} w h k e₁ e₂ e₃ =
    let h₁ = cleared-of sh h plus0 m₁ (e₁ ∙ ap (λ (n : ℕ). put m 0 (fill_of plus0 n)) k) in
    let h₂ = then sh h₁ U (λ u. fill_of one sh.p) (length-fill _ _) (rw w.at-u at e₂) in
    then sh h₂ F (λ u. fill_of (neg one) (2 * sh.p)) (length-fill _ _) (rw w.at_f at e₃)

module _ (sh : Sizes) (normalise : Bool) (tm : Terms) (m s : List Float) where
  abbrev by_mode : Bool → Store
  by_mode b = cond b (lazy_gram_store sh tm m (recip_store sh (vars sh s))) (gram_store sh (design_store sh normalise tm m (vars sh s)))

  pub unstored : {s₁ s₂ : List Float} → sh.lazy ≡ true → Has sh (rest sh s) (recip_store sh (vars sh s)) s₁ → Has sh (rest sh s₁) (lazy_gram_store sh tm m (vars sh s₁)) s₂
      → Has sh (rest sh s) (prepared_store sh normalise tm m (vars sh s)) s₂
  unfolding prepared_store
  unstored {s₂ = s₂} z h₁ h₂ = subst (λ (b : Bool). Has sh (rest sh s) (by_mode b) s₂) (sym z) (next sh h₁ (lazy_gram_store sh tm m) h₂)

  pub stored : {s₁ s₂ : List Float} → sh.lazy ≡ false → Has sh (rest sh s) (design_store sh normalise tm m (vars sh s)) s₁ → Has sh (rest sh s₁) (gram_store sh (vars sh s₁)) s₂
      → Has sh (rest sh s) (prepared_store sh normalise tm m (vars sh s)) s₂
  unfolding prepared_store
  stored {s₂ = s₂} z h₁ h₂ = subst (λ (b : Bool). Has sh (rest sh s) (by_mode b) s₂) (sym z) (next sh h₁ (gram_store sh) h₂)
