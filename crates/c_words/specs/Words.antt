-- Record and answer as words. Definitions only.
use Rattle.std.specs.Prelude.{List, [], ◌∷◌, ℕ, zero, suc}
use Rattle.numbers.specs.Ops.{f64}
use Rattle.lasso_optimizer.specs.declared.Scalars.{Scalars}
use Rattle.records.specs.declared.Counts.{Counts}
use Rattle.records.specs.declared.Paused.{Paused}
use Rattle.records.specs.declared.Stage.{Stage}
use Rattle.records.specs.declared.Stage.TheVariants.{Opening, Solving, Searching, Ended}
use Rattle.c_values.specs.Values.{word, truth, truth_word, bits}
use Rattle.c_words.specs.declared.Told.{Told}

-- the stage and its index; an unknown stage is one that has ended, which is 9
abbrev pub stage_from : ℕ → ℕ → Stage
stage_from zero i = Opening
stage_from (suc zero) i = Solving i
stage_from (suc (suc zero)) i = Searching i
stage_from (suc (suc (suc k))) i = Ended

abbrev pub stage_word : Stage → ℕ
stage_word Opening = 0
stage_word (Solving k) = 1
stage_word (Searching j) = 2
stage_word Ended = 3

abbrev pub index_word : Stage → ℕ
index_word Opening = 0
index_word (Solving k) = k
index_word (Searching j) = j
index_word Ended = 0

-- the scalars of a record's words, from word 6 on
abbrev pub scalars_from : List ℕ → Scalars
scalars_from w = record {
  t = f64 (word w 6);
  s = f64 (word w 7);
  dual = f64 (word w 8);
  pcgtol = f64 (word w 9);
  bnrm = f64 (word w 10);
  bkden = f64 (word w 11);
  error = f64 (word w 12);
  phi = f64 (word w 13);
  gdx = f64 (word w 14);
  missed = truth (word w 15);
}

-- stage, index, round, the three counts, the scalars, missed: 16 words
unfoldable pub paused_from : List ℕ → Paused
paused_from w = record {
  stage = stage_from (word w 0) (word w 1);
  round = word w 2;
  counts = record { rounds = record { 0 = word w 3 }; solver = record { 0 = word w 4 }; trials = record { 0 = word w 5 } };
  scalars = scalars_from w;
}

abbrev pub scalars_words : Scalars → List ℕ
scalars_words v =
    bits v.t ∷ bits v.s ∷ bits v.dual ∷ bits v.pcgtol ∷ bits v.bnrm ∷ bits v.bkden ∷ bits v.error ∷ bits v.phi ∷ bits v.gdx
    ∷ truth_word v.missed ∷ []

unfoldable pub paused_words : Paused → List ℕ
paused_words a =
    stage_word a.stage ∷ index_word a.stage ∷ a.round ∷ a.counts.rounds.0 ∷ a.counts.solver.0 ∷ a.counts.trials.0 ∷ scalars_words a.scalars

-- an answer: kind, number and place of its refusal, the three counts, last: 7 words
abbrev pub told_words : Told → Counts → List ℕ
told_words t c = t.kind ∷ t.number ∷ t.place ∷ c.rounds.0 ∷ c.solver.0 ∷ c.trials.0 ∷ t.last ∷ []
