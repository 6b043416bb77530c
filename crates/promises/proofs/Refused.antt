-- Each call's refusal is the first in 01's order, and changes nothing; a call that none refuses starts, or goes on. Assumes nothing.
use Rattle.std.specs.Prelude.{Result, ⊤, Ok, Err}
use Prim.Native.Nat.{ℕ}
use mathlib.Core.Path.{◌≡◌, ap, ◌∙◌}
use mathlib.Core.Bool.{cond}
use mathlib.Core.List.{List}
use lib.ListN.{length}
use lib.Ieee.{Float}
use Rattle.refusal.specs.declared.Refusal.{Refusal}
use Rattle.refusal.specs.declared.Refusal.TheVariants.{Record}
use Rattle.settings.specs.declared.Settings.{Settings}
use Rattle.settings.specs.Settings.{terms_of}
use Rattle.layout.specs.Slots.{flatly, rest, vars}
use Rattle.layout.specs.Need.{sizes_of}
use Rattle.pause.specs.Parts.{none}
use Rattle.pause.specs.Paused.{call}
use Rattle.lasso_optimizer.specs.Fit.{parts, fresh}
use Rattle.records.specs.declared.Paused.{Paused}
use Rattle.records.specs.declared.Stage.TheVariants.{Opening}
use Rattle.records.specs.Record.{paused_at, state_of}
use Rattle.checks.specs.Checks.{limits_of, start_values}
use Rattle.records.specs.Records.{possible_of}
use Rattle.beginning.specs.Start.{start_store}
use Rattle.elastic_net.specs.declared.Answer.{Answer}
use Rattle.elastic_net.specs.declared.Answer.TheVariants.{Refused}
use Rattle.elastic_net.specs.declared.Resumed.{Resumed}
use Rattle.elastic_net.specs.ElasticNet.{said, Outcome, outcome, by_check, resume_of, shown, StartOutcome, by_start_check, start_of}
use Rattle.promises.specs.Chain.{Starts, Resumes}
use Rattle.promises.specs.Refused.{first_of, start_check, resume_check, Unchanged}
use Rattle.promises.proofs.Unique.{outcomes-same, starts-same}

start-when : (j k : Result ⊤ Refusal) (s : List Float) (t good : StartOutcome) → t ≡ by_start_check j s (by_start_check k s good) → (c : Result ⊤ Refusal) → first_of j k ≡ c
    → t ≡ by_start_check c s good
start-when (Ok tt) k s t good h c q = h ∙ ap (λ (i : Result ⊤ Refusal). by_start_check i s good) q
start-when (Err r) k s t good h c q = h ∙ ap (λ (i : Result ⊤ Refusal). by_start_check i s good) q

resume-when : (j k : Result ⊤ Refusal) (a : Paused) (w s : List Float) (t good : Outcome) → t ≡ by_check j a w s (by_check k a w s good) → (c : Result ⊤ Refusal) → first_of j k ≡ c
    → t ≡ by_check c a w s good
resume-when (Ok tt) k a w s t good h c q = h ∙ ap (λ (i : Result ⊤ Refusal). by_check i a w s good) q
resume-when (Err r) k a w s t good h c q = h ∙ ap (λ (i : Result ⊤ Refusal). by_check i a w s good) q

module _ (n p : ℕ) (x y : List Float) (st : Settings) (s : List Float) (o : Result Paused Refusal) (s₁ : List Float) (h : Starts n p x y st s o s₁) where
  -- REFUSED: the scratch is as it was
  pub start-refused : (r : Refusal) → start_check n p x y st s ≡ Err r → (o ≡ Err r) × (s₁ ≡ s)
  unfolding start_of
  start-refused r q =
      starts-same o (Err r) s₁ s
      (start-when (limits_of n p (length x) (length y) p st (length s)) (start_values x y n p st.normalise) s _ _ h (Err r) q)

  -- ACCEPTED: a fresh record, and the scratch holds a fresh fit's vectors, its excess as it was
  pub start-accepted : start_check n p x y st s ≡ Ok tt
      → (o ≡ Ok (paused_at Opening 0 none (fresh p (terms_of st n).lambda)))
      × (s₁ ≡ flatly (sizes_of n p st) (start_store (sizes_of n p st) st.normalise (terms_of st n) x y) (rest (sizes_of n p st) s))
  unfolding start_of
  start-accepted q =
      starts-same o (Ok (paused_at Opening 0 none (fresh p (terms_of st n).lambda))) s₁
      (flatly (sizes_of n p st) (start_store (sizes_of n p st) st.normalise (terms_of st n) x y) (rest (sizes_of n p st) s))
      (start-when (limits_of n p (length x) (length y) p st (length s)) (start_values x y n p st.normalise) s _ _ h (Ok tt) q)

pub unchanged : (a : Paused) (s w : List Float) (r : Resumed) (w' s' : List Float) (g : Answer)
    → outcome r w' s' ≡ record { answer = said g; paused = a; weights = w; scratch = s } → Unchanged a s w r w' s' g
unchanged a s w r w' s' g o =
    let t = outcomes-same r (record { answer = g; paused = a }) w' w s' s o in
    record { answer = t.answers; paused = t.records; weights = t.weights; scratch = t.scratch }

module _ (n p : ℕ) (x y : List Float) (st : Settings) (a : Paused) (s w : List Float) (b : ℕ) (r : Resumed) (w' s' : List Float)
    (h : Resumes n p x y st a s w b r w' s') where
  -- REFUSED, by 1 to 4 or by 9: record, weights and scratch are as they were
  pub resume-refused : (q : Refusal) → resume_check n p x y st a s w ≡ Err q → Unchanged a s w r w' s' (Refused q)
  unfolding resume_of
  resume-refused q e =
      unchanged a s w r w' s' (Refused q)
      (resume-when (limits_of n p (length x) (length y) (length w) st (length s)) (cond (possible_of st.max_iter a) (Ok tt) (Err Record)) a w s _ _ h (Err q) e)

  -- GOES ON: the state of the fit after the call
  pub resume-accepted : resume_check n p x y st a s w ≡ Ok tt
      → outcome r w' s'
      ≡ shown (sizes_of n p st) st.normalise (terms_of st n).gamma y (rest (sizes_of n p st) s) w
      (call (parts (sizes_of n p st) (terms_of st n) st.tol x) st.max_iter b (state_of a (vars (sizes_of n p st) s)))
  unfolding resume_of
  resume-accepted e = resume-when (limits_of n p (length x) (length y) (length w) st (length s)) (cond (possible_of st.max_iter a) (Ok tt) (Err Record)) a w s _ _ h (Ok tt) e
