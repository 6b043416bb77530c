-- Any two outcomes that a contract permits coincide. Assumes nothing.
use Rattle.refusal.specs.declared.Refusal.{Refusal}
use Rattle.std.specs.Prelude.{Err, Ok, Result}
use Prim.Native.Nat.{ℕ}
use mathlib.Core.Path.{◌≡◌, refl, ap, sym, ◌∙◌}
use mathlib.Core.List.{List}
use lib.Ieee.{Float}
use Rattle.refusal.proofs.Numbers.{refusal_of, refusal-back}
use Rattle.settings.specs.declared.Settings.{Settings}
use Rattle.records.specs.declared.Paused.{Paused}
use Rattle.refusal.specs.declared.Way.TheVariants.{Converged, Limit}
use Rattle.elastic_net.specs.declared.Answer.{Answer}
use Rattle.elastic_net.specs.declared.Answer.TheVariants.{Pending, Done, Refused}
use Rattle.elastic_net.specs.declared.Resumed.{Resumed}
use Rattle.elastic_net.specs.ElasticNet.{Said, pending, converged, limit, refused, said, Outcome, outcome, SaidS, ready, refused_s, said_s, StartOutcome, start_outcome}
use Rattle.promises.specs.Chain.{Starts, Resumes}

-- ---- 01's words name the enum's case

unsaid : Said → Answer
unsaid pending = Pending
unsaid (converged b c) = Done b Converged c
unsaid (limit b c) = Done b Limit c
unsaid (refused k i) = Refused (refusal_of k i)

unsaid-said : (a : Answer) → unsaid (said a) ≡ a
unfolding unsaid
unsaid-said Pending = refl
unsaid-said (Done b Converged c) = refl
unsaid-said (Done b Limit c) = refl
unsaid-said (Refused r) = ap Refused (refusal-back r)

unsaid_s : SaidS → Result Paused Refusal
unsaid_s (ready a) = Ok a
unsaid_s (refused_s k i) = Err (refusal_of k i)

unsaid_s-said : (a : Result Paused Refusal) → unsaid_s (said_s a) ≡ a
unfolding unsaid_s
unsaid_s-said (Ok a) = refl
unsaid_s-said (Err r) = ap Err (refusal-back r)

-- ANSWERS THAT SAY THE SAME are the same
pub said_same : (a b : Answer) → said a ≡ said b → a ≡ b
said_same a b q = sym (unsaid-said a) ∙ ap unsaid q ∙ unsaid-said b

pub said_s-same : (a b : Result Paused Refusal) → said_s a ≡ said_s b → a ≡ b
said_s-same a b q = sym (unsaid_s-said a) ∙ ap unsaid_s q ∙ unsaid_s-said b

-- ---- the contracts

-- what two calls answer and leave
pub record Same (r r' : Resumed) (w w' s s' : List Float) : Type 0 where
  pub answers : r.answer ≡ r'.answer
  pub records : r.paused ≡ r'.paused
  pub weights : w ≡ w'
  pub scratch : s ≡ s'

-- OUTCOMES THAT ARE EQUAL have the same answer, record, weights and scratch
pub outcomes-same : (r r' : Resumed) (w w' s s' : List Float) → outcome r w s ≡ outcome r' w' s' → Same r r' w w' s s'
outcomes-same r r' w w' s s' q = record {
  answers = said_same r.answer r'.answer (ap (λ (o : Outcome). o.answer) q);
  records = ap (λ (o : Outcome). o.paused) q;
  weights = ap (λ (o : Outcome). o.weights) q;
  scratch = ap (λ (o : Outcome). o.scratch) q;
}

-- and so for starts
pub starts-same : (r r' : Result Paused Refusal) (s s' : List Float) → start_outcome r s ≡ start_outcome r' s' → (r ≡ r') × (s ≡ s')
starts-same r r' s s' q = (said_s-same r r' (ap (λ (o : StartOutcome). o.answer) q), ap (λ (o : StartOutcome). o.scratch) q)

module _ (n p : ℕ) (x y : List Float) (st : Settings) where
  pub resume-unique : (a : Paused) (s w : List Float) (b : ℕ) (r r' : Resumed) (w₁ w₂ s₁ s₂ : List Float)
      → Resumes n p x y st a s w b r w₁ s₁ → Resumes n p x y st a s w b r' w₂ s₂ → Same r r' w₁ w₂ s₁ s₂
  resume-unique a s w b r r' w₁ w₂ s₁ s₂ h k = outcomes-same r r' w₁ w₂ s₁ s₂ (h ∙ sym k)

  pub start-unique : (s : List Float) (r r' : Result Paused Refusal) (s₁ s₂ : List Float)
      → Starts n p x y st s r s₁ → Starts n p x y st s r' s₂ → (r ≡ r') × (s₁ ≡ s₂)
  start-unique s r r' s₁ s₂ h k = starts-same r r' s₁ s₂ (h ∙ sym k)
