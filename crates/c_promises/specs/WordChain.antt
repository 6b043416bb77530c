-- Calls over words as their contracts allow them, one after another. Definitions only.
use Rattle.std.specs.Prelude.{ℕ, ◌≡◌, List, [], ◌∷◌, length, Float}
use Rattle.elastic_net.specs.ElasticNet.{Outcome}
use Rattle.c_values.specs.Values.{word}
use Rattle.c_words.specs.Words.{paused_words}
use Rattle.c_answers.specs.Answers.{number_in, answer_words}
use Rattle.c_answers.specs.Called.{Called, called}
use Rattle.c_api.specs.Calls.{ResumeCall}

-- calls of `xangoravit_resume` with these budgets, from a record's words and a scratch: each on the words and the scratch that the one before left, with
-- some weights slice of length p and some answer slice of 7 words, until an answer's kind (its first word) is not 0, pending, or the budgets are used up.
-- What the last of them returns, and leaves in the record, the answer, its weights and the scratch
pub data WordChain (n p : ℕ) (x y : List Float) (sw : List ℕ) : List ℕ → List ℕ → List Float → ℕ → List ℕ → List ℕ → List Float → List Float → Type 0 where
  last : {b : ℕ} {bs pw : List ℕ} {s : List Float} {r : ℕ} {pw' aw' : List ℕ} {w' s' : List Float}
      → (w : List Float) → length w ≡ p → (aw : List ℕ) → length aw ≡ 7
      → ResumeCall n p x y sw pw s w b aw r pw' aw' w' s' → (word aw' 0 ≡ 0 → bs ≡ []) → WordChain n p x y sw (b ∷ bs) pw s r pw' aw' w' s'
  more : {b : ℕ} {bs pw : List ℕ} {s : List Float} {r'' : ℕ} {pw'' aw'' : List ℕ} {w'' s'' : List Float}
      → (w : List Float) → length w ≡ p → (aw : List ℕ) → length aw ≡ 7 → (r : ℕ) (pw' aw' : List ℕ) (w' s' : List Float)
      → ResumeCall n p x y sw pw s w b aw r pw' aw' w' s' → word aw' 0 ≡ 0
      → WordChain n p x y sw bs pw' s' r'' pw'' aw'' w'' s'' → WordChain n p x y sw (b ∷ bs) pw s r'' pw'' aw'' w'' s''

-- what a call that ends a fit returns and leaves: number, words of record and answer, weights and scratch of that outcome
unfoldable pub end_words : Outcome → Called
end_words o = called (number_in o.answer) (paused_words o.paused) (answer_words o.answer o.paused.counts) o.weights o.scratch
