-- Condition 3 over words: a caller who gives back the words that it got ends as smartcore's fit. Assumes nothing.
use Rattle.std.specs.Prelude.{Ok}
use Prim.Native.Nat.{ℕ}
use mathlib.Core.Path.{◌≡◌, refl, ap, ◌∙◌}
use mathlib.Core.Bool.{Bool}
use mathlib.Core.List.{List, ◌∷◌}
use lib.ListN.{length}
use lib.Ieee.{Float}
use Rattle.refusal.specs.declared.Failure.{Failure}
use Rattle.refusal.proofs.Numbers.{failures-end}
use Rattle.settings.specs.Settings.{terms_of}
use Rattle.layout.specs.declared.Sizes.{Sizes}
use Rattle.layout.specs.Slots.{rest}
use Rattle.layout.specs.Need.{sizes_of}
use Rattle.pause.specs.Parts.{End, end, converged, limit, failed}
use Rattle.lasso_optimizer.specs.Data.{Data}
use Rattle.records.specs.declared.Paused.{Paused}
use Rattle.stages.specs.Stage.{how_of}
use Rattle.elastic_net.specs.declared.Resumed.{Resumed}
use Rattle.elastic_net.specs.ElasticNet.{outcome, end_outcome, ending}
use Rattle.smartcore.specs.ElasticNet.{fit}
use Rattle.unbroken_fit.specs.Unbroken.{fit_of}
use Rattle.promises.specs.Chain.{Starts, Chain, last as last_c, more as more_c, Enough}
use Rattle.promises.specs.Outcome.{outcome_of}
use Rattle.promises.proofs.Pauses.{pause-theorem, pauses-end-as-the-rust}
use Rattle.c_values.specs.Settings.{settings-words, settings_from}
use Rattle.c_words.specs.Words.{paused_from}
use Rattle.c_answers.specs.Called.{Called, called}
use Rattle.c_api.specs.Calls.{StartCall, resumed_as}
use Rattle.c_promises.specs.WordChain.{WordChain, last, more, end_words}
use Rattle.c_promises.proofs.Calls.{began, Went, went, word-pending, pending-word, pending-reads}

module _ (n p : ℕ) (x y : List Float) (sw : List ℕ) (ls : length sw ≡ settings-words) where
  -- calls of `resume`, of the last of which z is the words: `before` were the record's ahead of it, and `given` was its budget
  pub record AsCalls (bs : List ℕ) (a : Paused) (s : List Float) (z : Called) (w' s' : List Float) : Type 0 where
    pub result : Resumed
    pub chain : Chain n p x y (settings_from sw) bs a s result w' s'
    pub before : List ℕ
    pub given : ℕ
    pub says : z ≡ resumed_as before given (outcome result w' s')

  -- CALLS OVER WORDS, from any 16 words and with any budgets, are calls of `resume` from the record that the words say
  pub words-are-calls : (bs pw : List ℕ) (s : List Float) (r : ℕ) (pw' aw' : List ℕ) (w' s' : List Float) → WordChain n p x y sw bs pw s r pw' aw' w' s'
      → length pw ≡ 16 → AsCalls bs (paused_from pw) s (called r pw' aw' w' s') w' s'
  words-are-calls _ pw s r pw' aw' w' s' (last {b} {bs} w l aw la c stop) lp =
      let g = went n p x y sw pw s aw ls lp la w b r pw' aw' w' s' c in
      record {
        result = g.result;
        chain = last_c w l g.resumes (λ q. stop (pending-word n p x y sw pw s aw ls lp la w b r pw' aw' w' s' c g q));
        before = pw;
        given = b;
        says = g.says;
      }
  words-are-calls _ pw s r pw' aw' w' s' (more {b} {bs} w l aw la r₁ pw₁ aw₁ w₁ s₁ c pend then) lp =
      go (words-are-calls bs pw₁ s₁ r pw' aw' w' s' then)
    where
      g : Went n p x y sw pw s aw ls lp la w b r₁ pw₁ aw₁ w₁ s₁ c
      g = went n p x y sw pw s aw ls lp la w b r₁ pw₁ aw₁ w₁ s₁ c

      go : (length pw₁ ≡ 16 → AsCalls bs (paused_from pw₁) s₁ (called r pw' aw' w' s') w' s')
          → AsCalls (b ∷ bs) (paused_from pw) s (called r pw' aw' w' s') w' s'
      go rec =
          let q = word-pending n p x y sw pw s aw ls lp la w b r₁ pw₁ aw₁ w₁ s₁ c g pend in
          let k = pending-reads n p x y sw pw s aw ls lp la w b r₁ pw₁ aw₁ w₁ s₁ c g q in
          let m = rec k.long in
          record {
            result = m.result;
            chain = more_c w l g.result w₁ s₁ g.resumes q (rw k.back at m.chain);
            before = m.before;
            given = m.given;
            says = m.says;
          }

-- ---- an end writes the record's words, whatever the budget

end-written : (sh : Sizes) (normalise : Bool) (gamma : Float) (ys e : List Float) (u : End Failure Data) (pw : List ℕ) (b : ℕ)
    → resumed_as pw b (ending sh normalise gamma ys e u) ≡ end_words (ending sh normalise gamma ys e u)
unfolding resumed_as end_words ending end_outcome how_of
end-written sh normalise gamma ys e (end converged c d) pw b = refl
end-written sh normalise gamma ys e (end limit c d) pw b = refl
end-written sh normalise gamma ys e (end (failed f) c d) pw b = rw (failures-end f)

module _ (n p : ℕ) (x y : List Float) (sw pw : List ℕ) (s : List Float) (aw pw₁ aw₁ : List ℕ) (s₁ : List Float) (h : StartCall n p x y sw pw s aw 0 pw₁ aw₁ s₁) where
  -- calls of `start` and `resume` that end a fit, and that calls over words return and leave the words of
  pub record EndsWith (bs : List ℕ) (z : Called) (w s₂ : List Float) : Type 0 where
    pub paused : Paused
    pub starts : Starts n p x y (settings_from sw) s (Ok paused) s₁
    pub result : Resumed
    pub chain : Chain n p x y (settings_from sw) bs paused s₁ result w s₂
    pub says : z ≡ end_words (outcome result w s₂)

  -- AFTER A START THAT RETURNS 0, calls over words whose budgets add up to 5,100·M at least are such calls
  pub words-end : (b : ℕ) (bs : List ℕ) → Enough (settings_from sw).max_iter (b ∷ bs)
      → (r : ℕ) (pw₂ aw₂ : List ℕ) (w s₂ : List Float) → WordChain n p x y sw (b ∷ bs) pw₁ s₁ r pw₂ aw₂ w s₂
      → EndsWith (b ∷ bs) (called r pw₂ aw₂ w s₂) w s₂
  words-end b bs enough r pw₂ aw₂ w s₂ c =
      let st = settings_from sw in
      let g = began n p x y sw pw s aw pw₁ aw₁ s₁ h in
      let k = words-are-calls n p x y sw g.settings (b ∷ bs) pw₁ s₁ r pw₂ aw₂ w s₂ c g.long in
      let chain : Chain n p x y (settings_from sw) (b ∷ bs) g.paused s₁ k.result w s₂ = rw g.back at k.chain in
      let t = pause-theorem n p x y st s s₁ g.paused g.starts b bs enough k.result w s₂ chain in
      record {
        paused = g.paused;
        starts = g.starts;
        result = k.result;
        chain = chain;
        says = k.says ∙ rw t (end-written (sizes_of n p st) st.normalise (terms_of st n).gamma y (rest (sizes_of n p st) s) (fit_of n p x y st) k.before k.given);
      }

  -- CONDITION 3 OVER WORDS: they end as smartcore's fit, in words
  pub words-end-as-the-rust : (b : ℕ) (bs : List ℕ) → Enough (settings_from sw).max_iter (b ∷ bs)
      → (r : ℕ) (pw₂ aw₂ : List ℕ) (w s₂ : List Float) → WordChain n p x y sw (b ∷ bs) pw₁ s₁ r pw₂ aw₂ w s₂
      → called r pw₂ aw₂ w s₂
      ≡ end_words (outcome_of (sizes_of n p (settings_from sw)) (rest (sizes_of n p (settings_from sw)) s) (fit n p x y (settings_from sw)))
  words-end-as-the-rust b bs enough r pw₂ aw₂ w s₂ c =
      let k = words-end b bs enough r pw₂ aw₂ w s₂ c in
      k.says ∙ ap end_words (pauses-end-as-the-rust n p x y (settings_from sw) s s₁ k.paused k.starts b bs enough k.result w s₂ k.chain)
