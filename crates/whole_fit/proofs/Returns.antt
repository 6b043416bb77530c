-- A start and resuming calls: a lemma for each return. Assumes nothing.
use Rattle.std.specs.Prelude.{Result, ⊤, Ok, Err}
use Prim.Native.Nat.{ℕ, ◌*◌, ◌≤◌}
use native.Mathlib.Omega.{arith}
use mathlib.Core.Path.{◌≡◌, refl, sym, ap, ◌∙◌}
use mathlib.Core.List.{List, [], ◌∷◌}
use lib.ListN.{length}
use lib.Ieee.{Float}
use Rattle.refusal.specs.declared.Refusal.{Refusal}
use Rattle.settings.specs.declared.Settings.{Settings}
use Rattle.layout.specs.Slots.{rest}
use Rattle.layout.specs.Need.{sizes_of}
use Rattle.pause.specs.Progress.{total}
use Rattle.pause.specs.Parts.{none}
use Rattle.records.specs.Record.{counts_back}
use Rattle.records.specs.Records.{ended_of}
use Rattle.records.specs.declared.Paused.{Paused}
use Rattle.checks.specs.Checks.{limits_of, start_values}
use Rattle.checks.proofs.Laws.{accepted}
use Rattle.elastic_net.specs.declared.Resumed.{Resumed}
use Rattle.elastic_net.specs.ElasticNet.{pending, Outcome, outcome, by_check, start_outcome, by_start_check, start_of}
use Rattle.elastic_net.proofs.Calls.{few-rounds}
use Rattle.smartcore.specs.LassoOptimizer.{Fitted, converged, limit, failed}
use Rattle.smartcore.specs.ElasticNet.{ElasticNet, fit}
use Rattle.promises.specs.Outcome.{outcome_of, answer_of}
use Rattle.promises.specs.Chain.{Starts, Resumes, Chain, last, Enough}
use Rattle.promises.proofs.Unique.{starts-same}
use Rattle.promises.proofs.Refused.{start-refused, start-accepted}
use Rattle.promises.proofs.Pauses.{pauses-end-as-the-rust}
use Rattle.whole_fit.specs.declared.Whole.{Whole}
use Rattle.whole_fit.specs.Fit.{whole_of, Fits, start_whole, refused_as, HasEnded, Settles}

module _ (n p : ℕ) (x y : List Float) (st : Settings) (s : List Float) (wl : ℕ) {k : Result ⊤ Refusal} (q : k ≡ limits_of n p (length x) (length y) wl st (length s)) where
  pub passes : (o : Result Paused Refusal) {s₁ : List Float} → k ≡ Ok tt → Starts n p x y st s o s₁ → start_outcome o s₁ ≡ start_whole n p x y st s wl
  unfolding start_whole
  passes o e h = rw (sym q ∙ e) h

-- a whole fit has ended
after_check : (k : Result ⊤ Refusal) (a : Paused) (w s : List Float) (o : Outcome) → (o.answer ≡ pending → ⊥) → (by_check k a w s o).answer ≡ pending → ⊥
after_check (Ok tt) a w s o h = h
after_check (Err r) a w s o h = λ q. let z : ◌≡◌ {A = ℕ} 0 1 = cc in omega arith

fitted-ends : (o : Fitted ElasticNet) → answer_of o ≡ pending → ⊥
fitted-ends (converged c o) q = let z : ◌≡◌ {A = ℕ} 0 1 = cc in omega arith
fitted-ends (limit c o) q = let z : ◌≡◌ {A = ℕ} 0 1 = cc in omega arith
fitted-ends (failed k c) q = let z : ◌≡◌ {A = ℕ} 0 1 = cc in omega arith

whole-ends : (n p : ℕ) (x y : List Float) (st : Settings) (s w : List Float) → (whole_of n p x y st s w).answer ≡ pending → ⊥
unfolding whole_of outcome_of
whole-ends n p x y st s w =
    let a = ended_of (counts_back none) in
    let o = outcome_of (sizes_of n p st) (rest (sizes_of n p st) s) (fit n p x y st) in
    let v = start_values x y n p st.normalise in
    after_check (limits_of n p (length x) (length y) (length w) st (length s)) a w s (by_check v a w s o) (after_check v a w s o (fitted-ends (fit n p x y st)))

one-enough : (M : ℕ) → Enough M (5100 * M ∷ [])
unfolding total
one-enough M = omega arith

-- what the start of a whole fit answered and left
module _ (n p : ℕ) (x y : List Float) (st : Settings) (s w : List Float) (o : Result Paused Refusal) {s₁ : List Float} (h : start_outcome o s₁ ≡ start_whole n p x y st s (length w)) where
  checks : (k : Result ⊤ Refusal) → limits_of n p (length x) (length y) (length w) st (length s) ≡ k → start_outcome o s₁ ≡ by_start_check k s (start_of n p x y st s)
  unfolding start_whole
  checks k e = h ∙ ap (λ (i : Result ⊤ Refusal). by_start_check i s (start_of n p x y st s)) e

  -- 1 to 4 refuse, and nothing was written
  limits-refuse : {r : Refusal} → limits_of n p (length x) (length y) (length w) st (length s) ≡ Err r → (o ≡ Err r) × (s₁ ≡ s)
  limits-refuse {r} e = starts-same o (Err r) s₁ s (checks (Err r) e)

  -- or they do not: then the start, which is given no weights, finds the same
  module _ (e : limits_of n p (length x) (length y) (length w) st (length s) ≡ Ok tt) where
    start_fits : limits_of n p (length x) (length y) p st (length s) ≡ Ok tt
    start_fits = rw (accepted e).weights at e

    values-refuse : {r : Refusal} → start_values x y n p st.normalise ≡ Err r → (o ≡ Err r) × (s₁ ≡ s)
    values-refuse {r} t = start-refused n p x y st s o s₁ (checks (Ok tt) e) r (rw (start_fits, t) refl)

  pub start-refuses : {r : Refusal} {u : Whole} → o ≡ Err r → u ≡ refused_as r → Fits n p x y st s w u w s₁
  unfolding whole_of
  start-refuses {r} {u} i f = limits (limits_of n p (length x) (length y) (length w) st (length s)) refl where
    values : limits_of n p (length x) (length y) (length w) st (length s) ≡ Ok tt
        → (v : Result ⊤ Refusal) → start_values x y n p st.normalise ≡ v → Fits n p x y st s w u w s₁
    values e (Ok tt) t =
        let j = (start-accepted n p x y st s o s₁ (checks (Ok tt) e) (rw (start_fits e, t) refl)).0 in
        let z : ◌≡◌ {A = ℕ} 0 1 = cc in
        absurd (omega arith)
    values e (Err r') t =
        let j = values-refuse e t in
        let same : r ≡ r' = cc j.0 in
        rw (f, same, e, t, j.1)

    limits : (k : Result ⊤ Refusal) → limits_of n p (length x) (length y) (length w) st (length s) ≡ k → Fits n p x y st s w u w s₁
    limits (Ok tt) e = values e (start_values x y n p st.normalise) refl
    limits (Err r') e =
        let j = limits-refuse e in
        let same : r ≡ r' = cc j.0 in
        rw (f, same, e, j.1)

  module _ {a : Paused} (i : o ≡ Ok a) where
    fine : limits_of n p (length x) (length y) (length w) st (length s) ≡ Ok tt
    fine = go (limits_of n p (length x) (length y) (length w) st (length s)) refl where
      go : (k : Result ⊤ Refusal) → limits_of n p (length x) (length y) (length w) st (length s) ≡ k → limits_of n p (length x) (length y) (length w) st (length s) ≡ Ok tt
      go (Ok tt) e = e
      go (Err r) e =
          let j = (limits-refuse e).0 in
          let z : ◌≡◌ {A = ℕ} 0 1 = cc in
          absurd (omega arith)

    pub many-weights : length w ≡ p
    many-weights = (accepted fine).weights

    pub few : st.max_iter ≤ 1000
    few = few-rounds (accepted fine)

    -- calls whose budgets add up to 5,100·M at least
    runs : {b : ℕ} {bs : List ℕ} (u : Resumed) {w₂ s₂ : List Float} → Enough st.max_iter (b ∷ bs)
        → Chain n p x y st (b ∷ bs) a s₁ u w₂ s₂ → outcome u w₂ s₂ ≡ whole_of n p x y st s w
    unfolding whole_of
    runs {b} {bs} u {w₂} {s₂} enough c = go (start_values x y n p st.normalise) refl where
      go : (v : Result ⊤ Refusal) → start_values x y n p st.normalise ≡ v → outcome u w₂ s₂ ≡ whole_of n p x y st s w
      go (Ok tt) t =
          let ready : Starts n p x y st s (Ok a) s₁ = rw i at (checks (Ok tt) fine) in
          rw (fine, t) (pauses-end-as-the-rust n p x y st s s₁ a ready b bs enough u w₂ s₂ c)
      go (Err r) t =
          let j = (values-refuse fine t).0 in
          let z : ◌≡◌ {A = ℕ} 0 1 = cc in
          absurd (omega arith)

    module _ {b : ℕ} {bs : List ℕ} (u : Resumed) {w₂ s₂ : List Float} (enough : Enough st.max_iter (b ∷ bs)) (c : Chain n p x y st (b ∷ bs) a s₁ u w₂ s₂) where
      pub has_ended : HasEnded u
      has_ended q = whole-ends n p x y st s w (sym (ap (λ (o : Outcome). o.answer) (runs u enough c)) ∙ q)

      pub settles : {o : Whole} → Settles u o → Fits n p x y st s w o w₂ s₂
      settles h = rw (h.says, h.paused) (runs u enough c)

    -- one call with 5,100·M steps is a chain
    module _ (u : Resumed) {w₂ s₂ : List Float} (c : Resumes n p x y st a s₁ w (5100 * st.max_iter) u w₂ s₂) where
      one-call : Chain n p x y st (5100 * st.max_iter ∷ []) a s₁ u w₂ s₂
      one-call = last w many-weights c (λ b. refl)

      pub one_ended : HasEnded u
      one_ended = has_ended u (one-enough st.max_iter) one-call

      pub one-settles : {o : Whole} → Settles u o → Fits n p x y st s w o w₂ s₂
      one-settles = settles u (one-enough st.max_iter) one-call
