-- What a call over words returns and leaves, and what it does with a wrong number of words. Definitions only.
use Rattle.std.specs.Prelude.{Bool, cond, List, ℕ, eqb, length, Float}
use Rattle.pause.specs.Parts.{none}
use Rattle.records.specs.declared.Counts.{Counts}
use Rattle.records.specs.Record.{counts_back}
use Rattle.elastic_net.specs.ElasticNet.{refused}
use Rattle.refusal.specs.declared.Refusal.TheVariants.{Size, Length}
use Rattle.refusal.specs.Refusal.{number_of, place_of}
use Rattle.c_words.specs.Words.{paused_from}
use Rattle.c_answers.specs.Answers.{answer_words}

-- the number of a refusal, or 0; the record's and the answer's words, weights and scratch
pub data Called : Type 0 where
  called : ℕ → List ℕ → List ℕ → List Float → List Float → Called

-- ---- a wrong number of words: 1 where n or p is out of range, else 2

-- the answer says so where it has its 7 words; record, weights and scratch are as they were
unfoldable pub unread : Bool → Counts → List ℕ → List ℕ → List Float → List Float → Called
unread ranged c rw aw w s =
    let r = cond ranged Length Size in
    called (number_of r) rw (cond (eqb (length aw) 7) (answer_words (refused (number_of r) (place_of r)) c) aw) w s

-- the counts of a record that has its 16 words
unfoldable pub counts_in : List ℕ → Counts
counts_in rw = cond (eqb (length rw) 16) (paused_from rw).counts (counts_back none)
