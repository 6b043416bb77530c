-- What the parts in nested loops answer and leave is smartcore's: coefficients, intercept and counts, or its refusal. Assumes nothing.
use mathlib.Core.Path.{◌≡◌, ap, ◌∙◌}
use mathlib.Core.Bool.{Bool, true, false, cond}
use mathlib.Core.List.{List}
use Prim.Native.Nat.{ℕ}
use lib.Ieee.{Float}
use Rattle.refusal.specs.declared.Failure.{Failure}
use Rattle.refusal.proofs.Numbers.{failures-placeless}
use Rattle.numbers.specs.Ops.{◌⊖◌, ◌⊗◌, ◌⊘◌}
use Rattle.arrays.specs.Sums.{mean_of, product_of}
use Rattle.arrays.specs.Vectors.{map_of, zip_of}
use Rattle.settings.specs.declared.Settings.{Settings}
use Rattle.settings.specs.Settings.{terms_of}
use Rattle.layout.specs.declared.Sizes.{Sizes}
use Rattle.layout.specs.Slots.{Slot.W, Slot.CENTRE, Slot.SCALE}
use Rattle.layout.specs.Need.{sizes_of}
use Rattle.design.specs.Statistics.{centres_of, scales_of}
use Rattle.pause.specs.Parts.{converged as converged_p, limit as limit_p, failed as failed_p, End, end}
use Rattle.lasso_optimizer.specs.Data.{Data, store_of}
use Rattle.stages.specs.Stage.{how_of}
use Rattle.ending.specs.End.{rescaled_of, weights_of, intercept_of}
use Rattle.elastic_net.specs.ElasticNet.{end_outcome, ending}
use Rattle.smartcore.specs.LassoOptimizer.{Fitted, converged, limit, Point}
use Rattle.smartcore.specs.ElasticNet.{ElasticNet, rescaled, model_of, fit}
use Rattle.unbroken_fit.specs.Unbroken.{fit_of, counts_of, point_of, told}
use Rattle.unbroken_fit.proofs.Round.{last_in}
use Rattle.unbroken_fit.proofs.Fit.{lazy_sizes, eager_sizes, fit_is}
use Rattle.promises.specs.Outcome.{outcome_of}

module _ (n p : ℕ) (x y : List Float) (st : Settings) where
  -- rescaled by these means and deviations
  abbrev rescaled_by : List Float → List Float → List Float → ElasticNet
  rescaled_by ce sc w =
      let gamma = (terms_of st n).gamma in
      let ws = cond st.normalise (zip_of (λ (v d : Float). gamma ⊗ v ⊘ d) p w sc) (map_of (λ (v : Float). gamma ⊗ v) p w) in
      record { coefficients = ws; intercept = cond st.normalise (mean_of n y ⊖ product_of p ws ce) (mean_of n y) }

  rescaled-is : (ce sc w : List Float) → ce ≡ centres_of st.normalise x n p → sc ≡ scales_of st.normalise x n p → rescaled_by ce sc w ≡ rescaled n p x y st w
  unfolding rescaled
  rescaled-is ce sc w h g = ap (λ (l : List Float). rescaled_by l sc w) h ∙ ap (λ (l : List Float). rescaled_by (centres_of st.normalise x n p) l w) g

-- an end's outcome, where the means and deviations of the columns are in their places
end_is : (sh : Sizes) (x y : List Float) (st : Settings) (e : List Float) (u : End Failure Data)
    → last_in u CENTRE ≡ centres_of st.normalise x sh.n sh.p → last_in u SCALE ≡ scales_of st.normalise x sh.n sh.p
    → ending sh st.normalise (terms_of st sh.n).gamma y e u ≡ outcome_of sh e (model_of sh.n sh.p x y st (told u))
unfolding ending end_outcome how_of weights_of intercept_of rescaled_of told counts_of point_of outcome_of
end_is sh x y st e (end converged_p c d) h g =
    ap (λ (o : ElasticNet). outcome_of sh e (converged (counts_of c) o)) (rescaled-is sh.n sh.p x y st (store_of d CENTRE) (store_of d SCALE) (store_of d W) h g)
end_is sh x y st e (end limit_p c d) h g =
    ap (λ (o : ElasticNet). outcome_of sh e (limit (counts_of c) o)) (rescaled-is sh.n sh.p x y st (store_of d CENTRE) (store_of d SCALE) (store_of d W) h g)
end_is sh x y st e (end (failed_p f) c d) h g = rw (failures-placeless f)

-- one of two sizes
either : (P : Sizes → Type 0) (b : Bool) (a₁ a₂ : Sizes) → P a₁ → P a₂ → P (cond b a₁ a₂)
either P true a₁ a₂ q r = q
either P false a₁ a₂ q r = r

module _ (n p : ℕ) (x y : List Float) (st : Settings) where
  sized-end : (e : List Float) (u : End Failure Data) → last_in u CENTRE ≡ centres_of st.normalise x n p → last_in u SCALE ≡ scales_of st.normalise x n p
      → ending (sizes_of n p st) st.normalise (terms_of st n).gamma y e u ≡ outcome_of (sizes_of n p st) e (model_of n p x y st (told u))
  unfolding sizes_of
  sized-end e u h g =
      either (λ (sh : Sizes). ending sh st.normalise (terms_of st n).gamma y e u ≡ outcome_of sh e (model_of n p x y st (told u))) st.lazy
      (lazy_sizes n p x y st) (eager_sizes n p x y st) (end_is (lazy_sizes n p x y st) x y st e u h g) (end_is (eager_sizes n p x y st) x y st e u h g)

  -- what the unbroken fit answers and leaves is smartcore's: coefficients, intercept, counts
  pub answers-as-the-rust : (e : List Float)
      → ending (sizes_of n p st) st.normalise (terms_of st n).gamma y e (fit_of n p x y st) ≡ outcome_of (sizes_of n p st) e (fit n p x y st)
  unfolding fit
  answers-as-the-rust e =
      let h = fit_is n p x y st in
      sized-end e (fit_of n p x y st) h.centres h.scales ∙ ap (λ (t : Fitted Point). outcome_of (sizes_of n p st) e (model_of n p x y st t)) h.says
