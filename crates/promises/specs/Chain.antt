-- Calls as the public contracts allow them, one after another. Definitions only.
use Rattle.refusal.specs.declared.Refusal.{Refusal}
use Rattle.std.specs.Prelude.{ℕ, ◌*◌, ◌≤◌, ◌≡◌, List, [], ◌∷◌, length, Float, Result}
use Rattle.settings.specs.declared.Settings.{Settings}
use Rattle.pause.specs.Progress.{total}
use Rattle.records.specs.declared.Paused.{Paused}
use Rattle.elastic_net.specs.declared.Resumed.{Resumed}
use Rattle.elastic_net.specs.ElasticNet.{said, pending, outcome, resume_of, start_outcome, start_of}

-- the contracts: what `start` and `resume` may answer and leave
abbrev pub Starts : ℕ → ℕ → List Float → List Float → Settings → List Float → Result Paused Refusal → List Float → Type 0
Starts n p x y st s r s' = start_outcome r s' ≡ start_of n p x y st s

abbrev pub Resumes : ℕ → ℕ → List Float → List Float → Settings → Paused → List Float → List Float → ℕ → Resumed → List Float → List Float → Type 0
Resumes n p x y st a s w b r w' s' = outcome r w' s' ≡ resume_of n p x y st a s w b

-- calls of `resume` with these budgets, from a record and a scratch: each on what the one before left, with some weights slice of length p,
-- until one is not pending or the budgets are used up. What the last of them answers, and leaves in its weights and in the scratch
pub data Chain (n p : ℕ) (x y : List Float) (st : Settings) : List ℕ → Paused → List Float → Resumed → List Float → List Float → Type 0 where
  last : {b : ℕ} {bs : List ℕ} {a : Paused} {s : List Float} {r : Resumed} {w' s' : List Float} → (w : List Float) → length w ≡ p
      → Resumes n p x y st a s w b r w' s' → (said r.answer ≡ pending → bs ≡ []) → Chain n p x y st (b ∷ bs) a s r w' s'
  more : {b : ℕ} {bs : List ℕ} {a : Paused} {s : List Float} {r' : Resumed} {w'' s'' : List Float} → (w : List Float) → length w ≡ p
      → (r : Resumed) (w' s' : List Float) → Resumes n p x y st a s w b r w' s' → said r.answer ≡ pending
      → Chain n p x y st bs r.paused s' r' w'' s'' → Chain n p x y st (b ∷ bs) a s r' w'' s''

-- budgets that suffice for M rounds, each of 1 + 4,999 + 100 steps at most
abbrev pub Enough : ℕ → List ℕ → Type 0
Enough M bs = M * 5100 ≤ total bs
