-- The pause theorem on the public contracts. Assumes nothing.
use Rattle.std.specs.Prelude.{Ok}
use Prim.Native.Nat.{ℕ, ◌+◌, ◌*◌, ◌≤◌}
use native.Mathlib.Nat.{zero-add}
use native.Mathlib.Omega.{arith}
use mathlib.Core.Path.{◌≡◌, refl, ap, ◌∙◌}
use mathlib.Core.List.{List, [], ◌∷◌, ◌++◌}
use lib.Ieee.{Float}
use Rattle.refusal.specs.declared.Failure.{Failure}
use Rattle.arrays.specs.Sums.{plus0}
use Rattle.arrays.specs.Vectors.{fill_of}
use Rattle.settings.specs.declared.Settings.{Settings}
use Rattle.settings.specs.Settings.{terms_of}
use Rattle.layout.specs.Slots.{rest, words}
use Rattle.layout.specs.Need.{sizes_of}
use Rattle.pause.specs.Progress.{Progress, over, going, total}
use Rattle.pause.specs.Parts.{End}
use Rattle.pause.specs.Paused.{State, call, start}
use Rattle.lasso_optimizer.specs.Data.{Data}
use Rattle.records.specs.declared.Paused.{Paused}
use Rattle.layout.proofs.Laws.{sizes-known}
use Rattle.records.specs.Records.{ended_of}
use Rattle.ending.specs.End.{gone}
use Rattle.elastic_net.specs.declared.Resumed.{Resumed}
use Rattle.elastic_net.specs.ElasticNet.{pending, said, Outcome, outcome, ending}
use Rattle.smartcore.specs.LassoOptimizer.{Fitted}
use Rattle.smartcore.specs.ElasticNet.{ElasticNet, fit}
use Rattle.unbroken_fit.specs.Unbroken.{fit_of}
use Rattle.promises.specs.Chain.{Starts, Chain, last, more, Enough}
use Rattle.promises.specs.Outcome.{counts_in, answered, answer_of, weights_in, outcome_of}
use Rattle.promises.proofs.Answer.{answers-as-the-rust}
use Rattle.promises.proofs.Calls.{parts_of, first_data, Poised, ended-with, poised-next, early, says-pending, says-ended, start-poised}

-- a state that a record and a scratch are poised in
pub record Pause (n p : ℕ) (x y : List Float) (st : Settings) (u : End Failure Data) (e : List Float) (k : ℕ) (a : Paused) (s : List Float) : Type 0 where
  pub state : State Data
  pub poised : Poised n p x y st u e k state a s

module _ (n p : ℕ) (x y : List Float) (st : Settings) (u : End Failure Data) (e : List Float) where
  abbrev Called : Type 0
  Called = Progress (End Failure Data) (State Data)

  abbrev called : ℕ → State Data → Progress (End Failure Data) (State Data)
  called b z = call (parts_of n p x st) st.max_iter b z

  -- calls from a state that leads to u end with u, once the budgets suffice
  chain-ends : (bs : List ℕ) (a : Paused) (s : List Float) (r : Resumed) (w' s' : List Float) → Chain n p x y st bs a s r w' s'
      → (k : ℕ) (z : State Data) → Poised n p x y st u e k z a s → st.max_iter * 5100 ≤ k + total bs
      → outcome r w' s' ≡ ending (sizes_of n p st) st.normalise (terms_of st n).gamma y e u
  unfolding total
  chain-ends _ a s r w' s' (last {b} {bs} w l c stop) k z g enough = go (called b z) refl
    where
      go : (q : Called) → called b z ≡ q → outcome r w' s' ≡ ending (sizes_of n p st) st.normalise (terms_of st n).gamma y e u
      go (over t) q = ended-with n p x y st u e k z a s g w l b r w' s' c t q
      go (going t) q =
          let none_left : bs ≡ [] = stop (says-pending n p x y st u e k z a s g w l b r w' s' c t q) in
          let few = early n p x y st u e k z a s g w l b r w' s' c t q in
          let m : st.max_iter * 5100 ≤ k + (b + total []) = rw none_left at enough in
          absurd (omega arith)
  chain-ends _ a s r w' s' (more {b} {bs} w l r₁ w₁ s₁ c pend then) k z g enough =
      go (chain-ends bs r₁.paused s₁ r w' s' then (k + b)) (called b z) refl
    where
      go : ((t : State Data) → Poised n p x y st u e (k + b) t r₁.paused s₁ → st.max_iter * 5100 ≤ k + b + total bs
          → outcome r w' s' ≡ ending (sizes_of n p st) st.normalise (terms_of st n).gamma y e u)
          → (q : Called) → called b z ≡ q → outcome r w' s' ≡ ending (sizes_of n p st) st.normalise (terms_of st n).gamma y e u
      go rec (over t) q = absurd (says-ended n p x y st u e k z a s g w l b r₁ w₁ s₁ c t q pend)
      go rec (going t) q = rec t (poised-next n p x y st u e k z a s g w l b r₁ w₁ s₁ c t q) (omega arith)

  -- calls whose last is pending leave a pause, with as many steps made as were given
  chain-pauses : (bs : List ℕ) (a : Paused) (s : List Float) (r : Resumed) (w' s' : List Float) → Chain n p x y st bs a s r w' s'
      → (k : ℕ) (z : State Data) → Poised n p x y st u e k z a s → said r.answer ≡ pending
      → Pause n p x y st u e (k + total bs) r.paused s'
  unfolding total
  chain-pauses _ a s r w' s' (last {b} {bs} w l c stop) k z g pend = go (called b z) refl
    where
      go : (q : Called) → called b z ≡ q → Pause n p x y st u e (k + (b + total bs)) r.paused s'
      go (over t) q = absurd (says-ended n p x y st u e k z a s g w l b r w' s' c t q pend)
      go (going t) q =
          let m : k + (b + total []) ≡ k + b = omega arith in
          rw (stop pend, m) (record { state = t; poised = poised-next n p x y st u e k z a s g w l b r w' s' c t q })
  chain-pauses _ a s r w' s' (more {b} {bs} w l r₁ w₁ s₁ c pend₁ then) k z g pend =
      go (λ t i. chain-pauses bs r₁.paused s₁ r w' s' then (k + b) t i pend) (called b z) refl
    where
      go : ((t : State Data) → Poised n p x y st u e (k + b) t r₁.paused s₁ → Pause n p x y st u e (k + b + total bs) r.paused s')
          → (q : Called) → called b z ≡ q → Pause n p x y st u e (k + (b + total bs)) r.paused s'
      go rec (over t) q = absurd (says-ended n p x y st u e k z a s g w l b r₁ w₁ s₁ c t q pend₁)
      go rec (going t) q =
          let m : k + (b + total bs) ≡ k + b + total bs = omega arith in
          rw m (rec t (poised-next n p x y st u e k z a s g w l b r₁ w₁ s₁ c t q))

-- what the call that ends a fit shows, e being the scratch's excess
pub record EndsAs (n p : ℕ) (st : Settings) (e : List Float) (o : Fitted ElasticNet) (r : Resumed) (w s : List Float) : Type 0 where
  pub answer : said r.answer ≡ answer_of o
  pub paused : r.paused ≡ ended_of (answered (counts_in o))
  pub weights : w ≡ weights_in p o
  pub scratch : s ≡ fill_of plus0 (words (sizes_of n p st)) ++ e

module _ (n p : ℕ) (x y : List Float) (st : Settings) (s s₁ : List Float) (a : Paused) (h : Starts n p x y st s (Ok a) s₁) where
  -- the end is that of the parts in nested loops
  pub pause-theorem : (b : ℕ) (bs : List ℕ) → Enough st.max_iter (b ∷ bs)
      → (r : Resumed) (w s₂ : List Float) → Chain n p x y st (b ∷ bs) a s₁ r w s₂
      → outcome r w s₂ ≡ ending (sizes_of n p st) st.normalise (terms_of st n).gamma y (rest (sizes_of n p st) s) (fit_of n p x y st)
  pause-theorem b bs enough r w s₂ c =
      chain-ends n p x y st (fit_of n p x y st) (rest (sizes_of n p st) s) (b ∷ bs) a s₁ r w s₂ c 0 (start (first_data n p x y st))
      (start-poised n p x y st s s₁ a h) (omega arith)

  -- CONDITION 3: after an accepted start, calls whose budgets add up to 5,100·M at least end as smartcore's fit: with its answer, weights and
  -- counts, +0 in every needed word of the scratch, and the excess as it was
  pub pauses-end-as-the-rust : (b : ℕ) (bs : List ℕ) → Enough st.max_iter (b ∷ bs)
      → (r : Resumed) (w s₂ : List Float) → Chain n p x y st (b ∷ bs) a s₁ r w s₂
      → outcome r w s₂ ≡ outcome_of (sizes_of n p st) (rest (sizes_of n p st) s) (fit n p x y st)
  pauses-end-as-the-rust b bs enough r w s₂ c =
      pause-theorem b bs enough r w s₂ c ∙ answers-as-the-rust n p x y st (rest (sizes_of n p st) s)

  -- the same in words
  pub ends-as-unbroken : (b : ℕ) (bs : List ℕ) → Enough st.max_iter (b ∷ bs)
      → (r : Resumed) (w s₂ : List Float) → Chain n p x y st (b ∷ bs) a s₁ r w s₂
      → EndsAs n p st (rest (sizes_of n p st) s) (fit n p x y st) r w s₂
  unfolding outcome_of gone
  ends-as-unbroken b bs enough r w s₂ c =
      let t = pauses-end-as-the-rust b bs enough r w s₂ c in
      record {
        answer = ap (λ (u : Outcome). u.answer) t;
        paused = ap (λ (u : Outcome). u.paused) t;
        weights = ap (λ (u : Outcome). u.weights) t ∙ ap (λ (k : ℕ). weights_in k (fit n p x y st)) (sizes-known n p st).columns;
        scratch = ap (λ (u : Outcome). u.scratch) t;
      }

  -- whatever the budgets, a pending answer is a pause on the way to the unbroken fit's end
  pub on-the-way : (bs : List ℕ) (r : Resumed) (w s₂ : List Float) → Chain n p x y st bs a s₁ r w s₂ → said r.answer ≡ pending
      → Pause n p x y st (fit_of n p x y st) (rest (sizes_of n p st) s) (total bs) r.paused s₂
  on-the-way bs r w s₂ c pend =
      rw zero-add at
      (chain-pauses n p x y st (fit_of n p x y st) (rest (sizes_of n p st) s) bs a s₁ r w s₂ c 0 (start (first_data n p x y st))
      (start-poised n p x y st s s₁ a h) pend)
