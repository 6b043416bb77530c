-- A lazy fit's panels change nothing in what it answers: R and C do not occur in smartcore's fit. Assumes nothing.
use Rattle.std.specs.Prelude.{Ok}
use Prim.Native.Nat.{ℕ}
use mathlib.Core.Path.{◌≡◌, refl, ap, sym, ◌∙◌}
use mathlib.Core.List.{List, ◌∷◌}
use lib.Ieee.{Float}
use Rattle.settings.specs.declared.Settings.{Settings}
use Rattle.settings.specs.Settings.{with_panels, l1_of, l2_of, terms_of}
use Rattle.records.specs.declared.Paused.{Paused}
use Rattle.records.specs.Records.{ended_of}
use Rattle.elastic_net.specs.declared.Resumed.{Resumed}
use Rattle.elastic_net.specs.ElasticNet.{said}
use Rattle.smartcore.specs.LassoOptimizer.{Fitted, converged, limit, failed, Point}
use Rattle.smartcore.specs.ElasticNet.{ElasticNet, optimize_eager, optimize_lazy, optimize_fit, rescaled, model_of, fit}
use Rattle.promises.specs.Chain.{Starts, Chain, Enough}
use Rattle.promises.specs.Outcome.{counts_in, answered, answer_of, weights_in}
use Rattle.promises.proofs.Pauses.{ends-as-unbroken}

-- what two calls that end a fit answer, count and leave in the weights
pub record SameEnd (r r' : Resumed) (w w' : List Float) : Type 0 where
  pub answers : said r.answer ≡ said r'.answer
  pub counts : r.paused.counts ≡ r'.paused.counts
  pub weights : w ≡ w'

module _ (n p : ℕ) (x y : List Float) (st : Settings) (R C : ℕ) where
  models-are-one : (o : Fitted Point) → model_of n p x y (with_panels R C st) o ≡ model_of n p x y st o
  unfolding rescaled terms_of l1_of l2_of
  models-are-one (converged c o) = refl
  models-are-one (limit c o) = refl
  models-are-one (failed k c) = refl

  optimizers-are-one : optimize_fit n p x y (with_panels R C st) ≡ optimize_fit n p x y st
  unfolding optimize_fit optimize_eager optimize_lazy terms_of l1_of l2_of
  optimizers-are-one = refl

  fits-are-one : fit n p x y (with_panels R C st) ≡ fit n p x y st
  unfolding fit
  fits-are-one = models-are-one (optimize_fit n p x y (with_panels R C st)) ∙ ap (model_of n p x y st) optimizers-are-one

  -- PANELS DO NOT MATTER: fits with panels of any two sizes, in any scratch and over any budgets, end with the same answer, counts and weights
  pub panels-do-not-matter : (s s₁ : List Float) (a : Paused) → Starts n p x y st s (Ok a) s₁ → (b : ℕ) (bs : List ℕ) → Enough st.max_iter (b ∷ bs)
      → (r : Resumed) (w s₂ : List Float) → Chain n p x y st (b ∷ bs) a s₁ r w s₂
      → (s' s₁' : List Float) (a' : Paused) → Starts n p x y (with_panels R C st) s' (Ok a') s₁' → (b' : ℕ) (bs' : List ℕ) → Enough st.max_iter (b' ∷ bs')
      → (r' : Resumed) (w' s₂' : List Float) → Chain n p x y (with_panels R C st) (b' ∷ bs') a' s₁' r' w' s₂' → SameEnd r r' w w'
  unfolding ended_of
  panels-do-not-matter s s₁ a h b bs enough r w s₂ c s' s₁' a' h' b' bs' enough' r' w' s₂' c' =
      let u = ends-as-unbroken n p x y st s s₁ a h b bs enough r w s₂ c in
      let v = ends-as-unbroken n p x y (with_panels R C st) s' s₁' a' h' b' bs' enough' r' w' s₂' c' in
      let e = sym fits-are-one in
      record {
        answers = u.answer ∙ ap answer_of e ∙ sym v.answer;
        counts = ap (λ (q : Paused). q.counts) u.paused ∙ ap (λ (o : Fitted ElasticNet). answered (counts_in o)) e ∙ sym (ap (λ (q : Paused). q.counts) v.paused);
        weights = u.weights ∙ ap (weights_in p) e ∙ sym v.weights;
      }
