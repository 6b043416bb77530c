-- Budget 0 and limit 0. Assumes nothing.
use Rattle.std.specs.Prelude.{Ok}
use Prim.Native.Nat.{ℕ}
use native.Mathlib.Omega.{arith}
use mathlib.Core.Path.{◌≡◌, refl, ap, sym, ◌∙◌}
use mathlib.Core.Bool.{Bool, true, false, cond}
use mathlib.Core.List.{List, [], ◌∷◌}
use lib.ListN.{length}
use lib.Ieee.{Float}
use Rattle.arrays.specs.Sums.{plus0}
use Rattle.arrays.specs.Vectors.{fill_of}
use Rattle.settings.specs.declared.Settings.{Settings}
use Rattle.layout.specs.Slots.{vars, rest, flatly}
use Rattle.layout.proofs.Slots.{flat-of, start as first-has}
use Rattle.layout.specs.Need.{sizes_of}
use Rattle.pause.specs.Progress.{run, total}
use Rattle.records.specs.declared.Paused.{Paused}
use Rattle.records.proofs.Back.{paused-back, store-back}
use Rattle.checks.specs.Checks.{limits_of}
use Rattle.checks.proofs.Laws.{accepted, accepted-room}
use Rattle.records.specs.Records.{possible_of, spent_at}
use Rattle.records.proofs.Laws.{possible-sane, unspent-run}
use Rattle.elastic_net.specs.declared.Answer.TheVariants.{Pending}
use Rattle.elastic_net.specs.declared.Resumed.{Resumed}
use Rattle.elastic_net.specs.ElasticNet.{outcome, shown}
use Rattle.smartcore.specs.LassoOptimizer.{limit, rounds, optimize}
use Rattle.smartcore.specs.ElasticNet.{optimize_eager, optimize_lazy, optimize_fit, rescaled, model_of, fit}
use Rattle.promises.specs.Chain.{Starts, Resumes, last, Enough}
use Rattle.promises.specs.Outcome.{outcome_of}
use Rattle.promises.specs.Refused.{resume_check, Unchanged}
use Rattle.promises.proofs.Refused.{unchanged, resume-accepted}
use Rattle.promises.proofs.Calls.{parts_of}
use Rattle.promises.proofs.Pauses.{pauses-end-as-the-rust}

module _ (n p : ℕ) (x y : List Float) (st : Settings) where
  -- BUDGET 0 changes nothing, for any record that passes 9 and is not spent, and any content of the scratch
  pub budget-0 : (a : Paused) (s w : List Float) (r : Resumed) (w' s' : List Float) → Resumes n p x y st a s w 0 r w' s'
      → limits_of n p (length x) (length y) (length w) st (length s) ≡ Ok tt → possible_of st.max_iter a ≡ true → spent_at st.max_iter a ≡ false
      → Unchanged a s w r w' s' Pending
  unfolding shown run
  budget-0 a s w r w' s' h f q o =
      let sh = sizes_of n p st in
      let k : resume_check n p x y st a s w ≡ Ok tt = rw (f, q) refl in
      let whole : flatly sh (vars sh s) (rest sh s) ≡ s = sym (flat-of sh (first-has sh s (accepted-room (accepted f)))) in
      unchanged a s w r w' s' Pending
      (rw (
        unspent-run st.max_iter a q (parts_of n p x st) o 0 (vars sh s),
        paused-back st.max_iter a (vars sh s) (possible-sane st.max_iter a q o),
        store-back a (vars sh s),
        whole,
      ) at (resume-accepted n p x y st a s w 0 r w' s' h k))

  no-rounds : st.max_iter ≡ 0 → fit n p x y st ≡ limit (record { openings = 0; solver = 0; trials = 0 }) (rescaled n p x y st (fill_of plus0 p))
  unfolding fit optimize_fit optimize_eager optimize_lazy optimize rounds
  no-rounds z = go st.lazy where
    go : (b : Bool) → model_of n p x y st (cond b (optimize_lazy n p x y st) (optimize_eager n p x y st))
        ≡ limit (record { openings = 0; solver = 0; trials = 0 }) (rescaled n p x y st (fill_of plus0 p))
    go true = rw z
    go false = rw z

  -- LIMIT 0: after an accepted start any first call ends as limit, with counts of 0 and weights of 0 rescaled
  pub limit-0 : (s s₁ : List Float) (a : Paused) → Starts n p x y st s (Ok a) s₁ → st.max_iter ≡ 0
      → (w : List Float) → length w ≡ p → (b : ℕ) (r : Resumed) (w' s' : List Float) → Resumes n p x y st a s₁ w b r w' s'
      → outcome r w' s'
      ≡ outcome_of (sizes_of n p st) (rest (sizes_of n p st) s) (limit (record { openings = 0; solver = 0; trials = 0 }) (rescaled n p x y st (fill_of plus0 p)))
  unfolding total
  limit-0 s s₁ a h z w l b r w' s' c =
      let enough : Enough st.max_iter (b ∷ []) = rw z (omega arith) in
      pauses-end-as-the-rust n p x y st s s₁ a h b [] enough r w' s' (last w l c (λ e. refl))
      ∙ ap (outcome_of (sizes_of n p st) (rest (sizes_of n p st) s)) (no-rounds z)
