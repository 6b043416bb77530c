-- Any two outcomes that the contract of a whole fit permits coincide: a fit in one call and one in pieces too. Assumes nothing.
use Rattle.refusal.specs.declared.Refusal.{Refusal}
use Rattle.records.specs.declared.Paused.{Paused}
use Rattle.whole_fit.specs.declared.Fitted.{Fitted}
use Rattle.std.specs.Prelude.{Err, Ok, Result}
use Prim.Native.Nat.{ℕ}
use mathlib.Core.Path.{◌≡◌, refl, sym, ap, ◌∙◌}
use mathlib.Core.List.{List}
use lib.Ieee.{Float}
use Rattle.refusal.specs.declared.Way.{Way}
use Rattle.refusal.specs.declared.Way.TheVariants.{Converged, Limit}
use Rattle.refusal.specs.declared.Refusal.TheVariants.{Record}
use Rattle.refusal.proofs.Numbers.{refusal_of, refusal-back}
use Rattle.settings.specs.declared.Settings.{Settings}
use Rattle.elastic_net.specs.ElasticNet.{Said, pending, converged, limit, refused, done_as, Outcome, start_outcome}
use Rattle.promises.proofs.Unique.{starts-same}
use Rattle.whole_fit.specs.declared.Whole.{Whole}
use Rattle.whole_fit.specs.Fit.{said_final, Fits, start_whole}

-- 01's words name the enum's case; no whole fit is pending
unsaid : Said → Result Fitted Refusal
unsaid pending = Err Record
unsaid (converged b c) = Ok (record { intercept = b; way = Converged; counts = c })
unsaid (limit b c) = Ok (record { intercept = b; way = Limit; counts = c })
unsaid (refused k i) = Err (refusal_of k i)

unsaid-said : (a : Result Fitted Refusal) → unsaid (said_final a) ≡ a
unfolding unsaid
unsaid-said (Ok f) = go f.way refl where
  go : (w : Way) → f.way ≡ w → unsaid (done_as f.way f.intercept f.counts) ≡ Ok f
  go Converged e = rw e refl
  go Limit e = rw e refl
unsaid-said (Err r) = ap Err (refusal-back r)

-- what two whole fits answer and leave
pub record Same (r r' : Whole) (w w' s s' : List Float) : Type 0 where
  pub answers : r.answer ≡ r'.answer
  pub records : r.paused ≡ r'.paused
  pub weights : w ≡ w'
  pub scratch : s ≡ s'

module _ (n p : ℕ) (x y : List Float) (st : Settings) (s : List Float) where
  pub fit-unique : (w : List Float) (r r' : Whole) (w₁ w₂ s₁ s₂ : List Float)
      → Fits n p x y st s w r w₁ s₁ → Fits n p x y st s w r' w₂ s₂ → Same r r' w₁ w₂ s₁ s₂
  fit-unique w r r' w₁ w₂ s₁ s₂ h k =
      let q = h ∙ sym k in
      record {
        answers = sym (unsaid-said r.answer) ∙ ap (λ (o : Outcome). unsaid o.answer) q ∙ unsaid-said r'.answer;
        records = ap (λ (o : Outcome). o.paused) q;
        weights = ap (λ (o : Outcome). o.weights) q;
        scratch = ap (λ (o : Outcome). o.scratch) q;
      }

  pub start-whole-unique : (wl : ℕ) (r r' : Result Paused Refusal) (s₁ s₂ : List Float)
      → start_outcome r s₁ ≡ start_whole n p x y st s wl → start_outcome r' s₂ ≡ start_whole n p x y st s wl → (r ≡ r') × (s₁ ≡ s₂)
  start-whole-unique wl r r' s₁ s₂ h k = starts-same r r' s₁ s₂ (h ∙ sym k)
