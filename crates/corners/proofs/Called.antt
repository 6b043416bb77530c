-- What a row says of smartcore's fit, it says of the calls: of every start, and of resuming calls in any pieces. Assumes nothing.
use Rattle.refusal.specs.declared.Refusal.{Refusal}
use Rattle.std.specs.Prelude.{Ok, Result}
use Prim.Native.Nat.{ℕ, ◌≤◌}
use mathlib.Core.Path.{◌≡◌, refl, ◌∙◌}
use mathlib.Core.List.{List, ◌∷◌}
use lib.ListN.{length}
use lib.Ieee.{Float}
use Rattle.numbers.specs.Ops.{f64}
use Rattle.settings.specs.declared.Settings.{Settings}
use Rattle.layout.specs.Slots.{rest}
use Rattle.layout.specs.Need.{sizes_of, need_of}
use Rattle.pause.specs.Parts.{none}
use Rattle.lasso_optimizer.specs.Fit.{fresh}
use Rattle.records.specs.declared.Stage.TheVariants.{Opening}
use Rattle.records.specs.declared.Paused.{Paused}
use Rattle.records.specs.Record.{paused_at}
use Rattle.elastic_net.specs.declared.Resumed.{Resumed}
use Rattle.elastic_net.specs.ElasticNet.{outcome}
use Rattle.promises.specs.Chain.{Starts, Chain, Enough}
use Rattle.promises.specs.Refused.{start_check}
use Rattle.promises.proofs.Refused.{start-accepted}
use Rattle.promises.proofs.Pauses.{pauses-end-as-the-rust}
use Rattle.corners.specs.Corners.{Ends, Fits, end_of}

module _ (n p : ℕ) (x y : List Float) (st : Settings) (a : Ends) (h : Fits n p x y st a) (s : List Float) (room : need_of n p st ≤ length s) where
  -- a start in a large enough scratch is accepted
  pub starts-ready : (o : Result Paused Refusal) (s₁ : List Float) → Starts n p x y st s o s₁ → o ≡ Ok (paused_at Opening 0 none (fresh p (f64 a.lambda)))
  starts-ready o s₁ c =
      let fine : start_check n p x y st s ≡ Ok tt = rw (h.limits (length s) room, h.values) refl in
      rw h.lambda at (start-accepted n p x y st s o s₁ c fine).0

  -- and calls after it whose budgets suffice leave the row's end
  pub calls-end : (k : Paused) (s₁ : List Float) → Starts n p x y st s (Ok k) s₁ → (b : ℕ) (bs : List ℕ) → Enough st.max_iter (b ∷ bs)
      → (r : Resumed) (w s₂ : List Float) → Chain n p x y st (b ∷ bs) k s₁ r w s₂ → outcome r w s₂ ≡ end_of n p st a (rest (sizes_of n p st) s)
  calls-end k s₁ c b bs enough r w s₂ g = pauses-end-as-the-rust n p x y st s s₁ k c b bs enough r w s₂ g ∙ h.ends (rest (sizes_of n p st) s)
