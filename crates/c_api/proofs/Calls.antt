-- What each call over words returns and leaves, from what the calls within it say. Assumes nothing.
use Rattle.std.specs.Prelude.{Err, Ok, Result, ⊤}
use mathlib.Core.Path.{◌≡◌, refl, ap}
use mathlib.Core.Bool.{Bool, true, false, ◌&&◌, cond}
use mathlib.Core.List.{List, []}
use Prim.Native.Nat.{ℕ}
use lib.Dec.{eqb}
use lib.ListN.{length}
use lib.Ieee.{Float}
use borrow.Author.Tests.{eqb-true, eq-eqb, ne_eqb}
use Rattle.refusal.specs.declared.Refusal.{Refusal}
use Rattle.refusal.specs.declared.Refusal.TheVariants.{Size, Length}
use Rattle.refusal.specs.Refusal.{number_of}
use Rattle.refusal.specs.Sizes.{in_size}
use Rattle.refusal.proofs.Asking.{both_true}
use Rattle.settings.specs.declared.Settings.{Settings}
use Rattle.pause.specs.Parts.{none}
use Rattle.records.specs.declared.Counts.{Counts}
use Rattle.records.specs.declared.Paused.{Paused}
use Rattle.records.specs.Record.{counts_back}
use Rattle.elastic_net.specs.declared.Resumed.{Resumed}
use Rattle.elastic_net.specs.ElasticNet.{said, said_s, outcome, start_outcome, resume_of, start_of}
use Rattle.checks.specs.Checks.{scratch_words}
use Rattle.prediction.specs.Predict.{Outcome.outcome as outcome_p, predict_of}
use Rattle.lone_solver.specs.Solve.{Outcome.outcome as outcome_l, solve_of}
use Rattle.c_words.specs.declared.Told.{Told}
use Rattle.c_values.specs.Settings.{settings-words, settings_from}
use Rattle.c_words.specs.Words.{paused_from, paused_words, told_words}
use Rattle.c_answers.specs.Answers.{answer_words, keeps, told_of, started_said, started_record, told_predicted, told_solved}
use Rattle.c_answers.specs.Called.{Called, called, unread, counts_in}
use Rattle.c_api.specs.Calls.{scratch_words_of, resumed_as, resume_words, started_as, start_words, predicted_as, predict_words, solved_as, solve_words}

-- ---- the words that are due

abbrev pub Due : ℕ → ℕ → ℕ → Bool
Due a b c = eqb a settings-words && eqb b 16 && eqb c 7

pub record Lengths (a b c : ℕ) : Type 0 where
  pub settings : a ≡ settings-words
  pub paused : b ≡ 16
  pub answer : c ≡ 7

pub lengths : (a b c : ℕ) → Due a b c ≡ true → Lengths a b c
lengths a b c h =
    let (l, r) = both_true (eqb a settings-words && eqb b 16) (eqb c 7) h in
    let (x, y) = both_true (eqb a settings-words) (eqb b 16) l in
    record { settings = eqb-true a settings-words x; paused = eqb-true b 16 y; answer = eqb-true c 7 r }

-- ---- the words of scratch

module _ (n p : ℕ) (sw : List ℕ) where
  pub scratch-not-due : (length sw ≡ settings-words → ⊥) → 0 ≡ scratch_words_of n p sw
  unfolding scratch_words_of
  scratch-not-due h = rw (ne_eqb (length sw) settings-words h)

  pub scratch-due : {st : Settings} {r : ℕ} → length sw ≡ settings-words → st ≡ settings_from sw → r ≡ scratch_words n p st → r ≡ scratch_words_of n p sw
  unfolding scratch_words_of
  scratch-due h es e = rw (eq-eqb (length sw) settings-words h, ← es) e

-- ---- a wrong number of words

abbrev beside : List ℕ → List Float → List Float → Called → Called
beside pw w s (called k r a v m) = called k pw a w s

-- the other slices stay, whatever they are
others-kept : (ranged : Bool) (c : Counts) (aw : List ℕ) {aw' : List ℕ} {k : ℕ} (pw : List ℕ) (w s : List Float) → called k [] aw' [] [] ≡ unread ranged c [] aw [] []
    → called k pw aw' w s ≡ unread ranged c pw aw w s
unfolding unread
others-kept ranged c aw pw w s e = ap (beside pw w s) e

-- ---- a resuming call

module _ (n p : ℕ) (x y : List Float) (sw pw : List ℕ) (s w : List Float) (b : ℕ) (aw : List ℕ) where
  pub resume-not-due : {c : Counts} {k : ℕ} {aw' : List ℕ} → Due (length sw) (length pw) (length aw) ≡ false
      → c ≡ counts_in pw → called k [] aw' [] [] ≡ unread (in_size n p) c [] aw [] []
      → called k pw aw' w s ≡ resume_words n p x y sw pw s w b aw
  unfolding resume_words
  resume-not-due {c} q ec e = rw (q, ← ec) (others-kept (in_size n p) c aw pw w s e)

  pub resume-due : (r : Resumed) (w' s' : List Float) {st : Settings} {a : Paused} {pw' aw' : List ℕ} {t : Told}
      → Due (length sw) (length pw) (length aw) ≡ true → st ≡ settings_from sw → a ≡ paused_from pw → outcome r w' s' ≡ resume_of n p x y st a s w b
      → pw' ≡ cond (keeps (said r.answer) b) pw (paused_words r.paused) → t ≡ told_of (said r.answer) → aw' ≡ told_words t r.paused.counts
      → called t.number pw' aw' w' s' ≡ resume_words n p x y sw pw s w b aw
  unfolding resume_words resumed_as answer_words
  resume-due r w' s' q es ea o er et ew = rw (q, ← es, ← ea, ← o, ew, er, et)

-- ---- a start

module _ (n p : ℕ) (x y : List Float) (sw pw : List ℕ) (s : List Float) (aw : List ℕ) where
  pub start-not-due : {c : Counts} {k : ℕ} {aw' : List ℕ} → Due (length sw) (length pw) (length aw) ≡ false
      → c ≡ counts_back none → called k [] aw' [] [] ≡ unread (in_size n p) c [] aw [] []
      → called k pw aw' [] s ≡ start_words n p x y sw pw s aw
  unfolding start_words
  start-not-due {c} q ec e = rw (q, ← ec) (others-kept (in_size n p) c aw pw [] s e)

  pub start-due : (r : Result Paused Refusal) (s' : List Float) {st : Settings} {pw' aw' : List ℕ} {t : Told} {c : Counts}
      → Due (length sw) (length pw) (length aw) ≡ true → st ≡ settings_from sw → start_outcome r s' ≡ start_of n p x y st s
      → pw' ≡ started_record (said_s r) pw → t ≡ told_of (started_said (said_s r)) → c ≡ counts_back none → aw' ≡ told_words t c
      → called t.number pw' aw' [] s' ≡ start_words n p x y sw pw s aw
  unfolding start_words started_as answer_words
  start-due r s' q es o er et ec ew = rw (q, ← es, ← o, ew, er, et, ec)

-- ---- predictions

predicted-as : (r : Result ⊤ Refusal) (out : List Float) → called (told_predicted r).number [] (told_words (told_predicted r) (counts_back none)) out [] ≡ predicted_as (outcome_p r out)
unfolding predicted_as
predicted-as (Ok tt) out = refl
predicted-as (Err r) out = refl

module _ (n p : ℕ) (x w : List Float) (b : Float) (out : List Float) (aw : List ℕ) where
  pub predict-not-due : {r : Refusal} {k : ℕ} → (length aw ≡ 7 → ⊥) → r ≡ cond (in_size n p) Length Size → k ≡ number_of r
      → called k [] aw out [] ≡ predict_words n p x w b out aw
  unfolding predict_words unread
  predict-not-due h er ek = rw (ne_eqb (length aw) 7 h, ek, er)

  pub predict-due : {r : Result ⊤ Refusal} {out' : List Float} {aw' : List ℕ} {t : Told} {c : Counts} → length aw ≡ 7 → outcome_p r out' ≡ predict_of n p x w b out
      → t ≡ told_predicted r → c ≡ counts_back none → aw' ≡ told_words t c → called t.number [] aw' out' [] ≡ predict_words n p x w b out aw
  unfolding predict_words
  predict-due {r} {out'} h o et ec ew = rw (eq-eqb (length aw) 7 h, ← o, ew, et, ec) (predicted-as r out')

-- ---- the lone solver

solved-as : (r : Result Float Refusal) (x s : List Float) → called (told_solved r).number [] (told_words (told_solved r) (counts_back none)) x s ≡ solved_as (outcome_l r x s)
unfolding solved_as
solved-as (Ok e) x s = refl
solved-as (Err r) x s = refl

module _ (n : ℕ) (a b x : List Float) (tol : Float) (limit : ℕ) (s : List Float) (aw : List ℕ) where
  pub solve-not-due : {r : Refusal} {k : ℕ} → (length aw ≡ 7 → ⊥) → r ≡ cond (in_size 1 n) Length Size → k ≡ number_of r
      → called k [] aw x s ≡ solve_words n a b x tol limit s aw
  unfolding solve_words unread
  solve-not-due h er ek = rw (ne_eqb (length aw) 7 h, ek, er)

  pub solve-due : {r : Result Float Refusal} {x' s' : List Float} {aw' : List ℕ} {t : Told} {c : Counts} → length aw ≡ 7 → outcome_l r x' s' ≡ solve_of n a b x tol limit s
      → t ≡ told_solved r → c ≡ counts_back none → aw' ≡ told_words t c → called t.number [] aw' x' s' ≡ solve_words n a b x tol limit s aw
  unfolding solve_words
  solve-due {r} {x'} {s'} h o et ec ew = rw (eq-eqb (length aw) 7 h, ← o, ew, et, ec) (solved-as r x' s')
