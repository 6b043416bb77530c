-- A wrong number of words: the answer is written where it has its own 7, and else left. Assumes nothing.
use mathlib.Core.Path.{◌≡◌}
use mathlib.Core.Bool.{Bool, cond}
use mathlib.Core.List.{List, []}
use Prim.Native.Nat.{ℕ}
use lib.ListN.{length}
use borrow.Author.Tests.{eq-eqb, ne_eqb}
use Rattle.refusal.specs.declared.Refusal.{Refusal}
use Rattle.refusal.specs.declared.Refusal.TheVariants.{Size, Length}
use Rattle.refusal.specs.Refusal.{number_of, place_of}
use Rattle.records.specs.declared.Counts.{Counts}
use Rattle.elastic_net.specs.ElasticNet.{refused}
use Rattle.c_words.specs.declared.Told.{Told}
use Rattle.c_words.specs.Words.{told_words}
use Rattle.c_answers.specs.Answers.{answer_words, told_of}
use Rattle.c_answers.specs.Called.{called, unread}

module _ (ranged : Bool) (c : Counts) (aw : List ℕ) where
  pub answer-written : {r : Refusal} {t : Told} {aw' : List ℕ} → length aw ≡ 7 → r ≡ cond ranged Length Size → t ≡ told_of (refused (number_of r) (place_of r))
      → aw' ≡ told_words t c → called t.number [] aw' [] [] ≡ unread ranged c [] aw [] []
  unfolding unread answer_words
  answer-written h er et ew = rw (eq-eqb (length aw) 7 h, ew, et, er)

  pub answer-left : {r : Refusal} {t : Told} → (length aw ≡ 7 → ⊥) → r ≡ cond ranged Length Size → t ≡ told_of (refused (number_of r) (place_of r))
      → called t.number [] aw [] [] ≡ unread ranged c [] aw [] []
  unfolding unread
  answer-left h er et = rw (ne_eqb (length aw) 7 h, et, er)
