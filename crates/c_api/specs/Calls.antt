-- What the calls over words return and leave. Definitions only.
use Rattle.std.specs.Prelude.{◌≡◌, ◌&&◌, cond, List, [], ◌∷◌, ℕ, eqb, leb, length, Float, Err, Ok}
use Rattle.pause.specs.Parts.{none}
use Rattle.records.specs.Record.{counts_back}
use Rattle.elastic_net.specs.ElasticNet.{Outcome, StartOutcome, resume_of, start_of}
use Rattle.refusal.specs.declared.Refusal.{Refusal}
use Rattle.refusal.specs.Refusal.{number_of, place_of}
use Rattle.refusal.specs.Sizes.{in_size}
use Rattle.checks.specs.Checks.{scratch_words}
use Rattle.prediction.specs.Predict.{Outcome as OutcomeP, Outcome.outcome as outcome_p, predict_of}
use Rattle.lone_solver.specs.Solve.{Outcome as OutcomeL, Outcome.outcome as outcome_l, solve_of}
use Rattle.c_values.specs.Values.{bits}
use Rattle.c_values.specs.Settings.{settings-words, settings_from}
use Rattle.c_words.specs.Words.{paused_from, paused_words}
use Rattle.c_answers.specs.Answers.{number_in, answer_words, keeps, started_said, started_record}
use Rattle.c_answers.specs.Called.{Called, called, unread, counts_in}

-- ---- the words of scratch that a fit needs: 0 where a size or a setting is out of range, or the settings have not their words

-- n, p, settings
unfoldable pub scratch_words_of : ℕ → ℕ → List ℕ → ℕ
scratch_words_of n p sw = cond (eqb (length sw) settings-words) (scratch_words n p (settings_from sw)) 0

-- ---- a resuming call

unfoldable pub resumed_as : List ℕ → ℕ → Outcome → Called
resumed_as rw b o =
    called (number_in o.answer) (cond (keeps o.answer b) rw (paused_words o.paused)) (answer_words o.answer o.paused.counts)
    o.weights o.scratch

-- n, p, matrix, targets, settings, record, scratch, weights, budget, answer
unfoldable pub resume_words : ℕ → ℕ → List Float → List Float → List ℕ → List ℕ → List Float → List Float → ℕ → List ℕ → Called
resume_words n p x y sw rw s w b aw =
    cond (eqb (length sw) settings-words && eqb (length rw) 16 && eqb (length aw) 7)
    (resumed_as rw b (resume_of n p x y (settings_from sw) (paused_from rw) s w b))
    (unread (in_size n p) (counts_in rw) rw aw w s)

-- ---- a start

unfoldable pub started_as : List ℕ → StartOutcome → Called
started_as rw o =
    let a = started_said o.answer in
    called (number_in a) (started_record o.answer rw) (answer_words a (counts_back none)) [] o.scratch

-- n, p, matrix, targets, settings, record, scratch, answer
unfoldable pub start_words : ℕ → ℕ → List Float → List Float → List ℕ → List ℕ → List Float → List ℕ → Called
start_words n p x y sw rw s aw =
    cond (eqb (length sw) settings-words && eqb (length rw) 16 && eqb (length aw) 7)
    (started_as rw (start_of n p x y (settings_from sw) s))
    (unread (in_size n p) (counts_back none) rw aw [] s)

-- ---- predictions and the lone solver: kind 1 where it is done, no counts, and last the solver's error

abbrev pub short_words : ℕ → ℕ → ℕ → ℕ → List ℕ
short_words kind number place last = kind ∷ number ∷ place ∷ 0 ∷ 0 ∷ 0 ∷ last ∷ []

abbrev pub refused_as : Refusal → List Float → List Float → Called
refused_as r x s = called (number_of r) [] (short_words 3 (number_of r) (place_of r) 0) x s

unfoldable pub predicted_as : OutcomeP → Called
predicted_as (outcome_p (Ok tt) out) = called 0 [] (short_words 1 0 0 0) out []
predicted_as (outcome_p (Err r) out) = refused_as r out []

-- n, p, matrix, weights, intercept, predictions, answer
unfoldable pub predict_words : ℕ → ℕ → List Float → List Float → Float → List Float → List ℕ → Called
predict_words n p x w b out aw = cond (eqb (length aw) 7) (predicted_as (predict_of n p x w b out)) (unread (in_size n p) (counts_back none) [] aw out [])

unfoldable pub solved_as : OutcomeL → Called
solved_as (outcome_l (Ok e) x s) = called 0 [] (short_words 1 0 0 (bits e)) x s
solved_as (outcome_l (Err r) x s) = refused_as r x s

-- n, matrix, right side, start and solution, tolerance, limit, scratch, answer
unfoldable pub solve_words : ℕ → List Float → List Float → List Float → Float → ℕ → List Float → List ℕ → Called
solve_words n a b x tol limit s aw =
    cond (eqb (length aw) 7) (solved_as (solve_of n a b x tol limit s)) (unread (leb 1 n && leb n 64) (counts_back none) [] aw x s)

-- ---- the contracts: the input as above, then what the call returns and leaves in record, answer, weights (predictions, solution) and scratch

abbrev pub ScratchCall : ℕ → ℕ → List ℕ → ℕ → Type 0
ScratchCall n p sw r = r ≡ scratch_words_of n p sw

abbrev pub StartCall : ℕ → ℕ → List Float → List Float → List ℕ → List ℕ → List Float → List ℕ → ℕ → List ℕ → List ℕ → List Float → Type 0
StartCall n p x y sw rw s aw r rw' aw' s' = called r rw' aw' [] s' ≡ start_words n p x y sw rw s aw

abbrev pub ResumeCall : ℕ → ℕ → List Float → List Float → List ℕ → List ℕ → List Float → List Float → ℕ → List ℕ
    → ℕ → List ℕ → List ℕ → List Float → List Float → Type 0
ResumeCall n p x y sw rw s w b aw r rw' aw' w' s' = called r rw' aw' w' s' ≡ resume_words n p x y sw rw s w b aw

abbrev pub PredictCall : ℕ → ℕ → List Float → List Float → Float → List Float → List ℕ → ℕ → List ℕ → List Float → Type 0
PredictCall n p x w b out aw r aw' out' = called r [] aw' out' [] ≡ predict_words n p x w b out aw

abbrev pub SolveCall : ℕ → List Float → List Float → List Float → Float → ℕ → List Float → List ℕ → ℕ → List ℕ → List Float → List Float → Type 0
SolveCall n a b x tol limit s aw r aw' x' s' = called r [] aw' x' s' ≡ solve_words n a b x tol limit s aw
