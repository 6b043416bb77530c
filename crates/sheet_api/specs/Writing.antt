-- What the calls that write a sheet return and leave: the two writers and the two moves. Definitions only.
use Rattle.sheet_move.specs.declared.Moved.{Moved}
use Rattle.refusal.specs.declared.Refusal.{Refusal}
use Rattle.std.specs.Prelude.{◌≡◌, ◌&&◌, cond, List, [], ◌∷◌, ℕ, leb, eqb, length, Float, Result, ⊤, Ok, Err}
use Rattle.refusal.specs.declared.Refusal.TheVariants.{Size, Length}
use Rattle.refusal.specs.Checks.{ask}
use Rattle.refusal.specs.Sizes.{in_size}
use Rattle.sheet_front.specs.declared.Version.{Version}
use Rattle.sheet.specs.Rows.{ahead}
use Rattle.sheet_write.specs.Write.{given, sheet_length, written_of}
use Rattle.sheet_write.specs.Write.{Outcome as OutcomeW, Outcome.outcome as outcome_w}
use Rattle.sheet_move.specs.Move.{up_check, down_check, up_move, down_move, Outcome, Outcome.outcome}
use Rattle.c_values.specs.Settings.{settings-words, settings_from}
use Rattle.sheet_words.specs.Words.{number_by, place_word}

-- the number of a refusal, or 0; the words of a move, the place's word, the output
pub data CalledOut : Type 0 where
  called_out : ℕ → List ℕ → List ℕ → List ℕ → CalledOut

-- ---- the writers

abbrev pub check_written : Result ℕ Refusal → Result ⊤ Refusal
check_written (Ok k) = Ok tt
check_written (Err r) = Err r

abbrev pub written_as : List ℕ → OutcomeW → CalledOut
written_as pw (outcome_w o out) = called_out (number_by (check_written o)) [] (place_word (check_written o) pw) out

-- where words of the settings or of the place are missing, or too many: 2, as other slices have it, behind the output's and 1
unfoldable pub unwritten : Version → ℕ → ℕ → ℕ → Result ⊤ Refusal
unwritten v n p room = ask (leb (sheet_length v n p) room) Length (ask (in_size n p) Size (Err Length))

-- n, p, settings, sources, targets, matrix, scores, output, place
unfoldable pub write_words : Version → ℕ → ℕ → List ℕ → List ℕ → List ℕ → List Float → List Float → List ℕ → List ℕ → CalledOut
write_words v n p sw sources targets x y out pw =
    cond (eqb (length sw) settings-words && eqb (length pw) 1)
    (written_as pw (written_of v (given n p (settings_from sw) sources targets x y) out))
    (let c = unwritten v n p (length out) in called_out (number_by c) [] (place_word c pw) out)

-- ---- the moves

abbrev pub check_moved : Result Moved Refusal → Result ⊤ Refusal
check_moved (Ok m) = Ok tt
check_moved (Err r) = Err r

-- how many bytes, and the family; a refusal leaves the words as they were
abbrev pub moved_words : Result Moved Refusal → List ℕ → List ℕ
moved_words (Ok m) mw = m.bytes ∷ m.family ∷ []
moved_words (Err r) mw = mw

abbrev pub moved_as : List ℕ → List ℕ → Outcome → CalledOut
moved_as mw pw (outcome o out) = called_out (number_by (check_moved o)) (moved_words o mw) (place_word (check_moved o) pw) out

-- where words of the move or of the place are missing, or too many: 2, behind all that refuses the move
abbrev pub unmoved : Result ⊤ Refusal → Result ⊤ Refusal
unmoved c = ahead c (Err Length)

-- the answer, or the check alone where words are missing
abbrev pub move_words : Outcome → Result ⊤ Refusal → List ℕ → List ℕ → List ℕ → CalledOut
move_words o c out mw pw =
    cond (eqb (length mw) 2 && eqb (length pw) 1) (moved_as mw pw o) (called_out (number_by (unmoved c)) mw (place_word (unmoved c) pw) out)

-- the sheet's bytes, the family, output, words of the move, place
unfoldable pub move_up_words : List ℕ → ℕ → List ℕ → List ℕ → List ℕ → CalledOut
move_up_words b family out mw pw = move_words (up_move b family out) (up_check b (length out)) out mw pw

unfoldable pub move_down_words : List ℕ → List ℕ → List ℕ → List ℕ → CalledOut
move_down_words b out mw pw = move_words (down_move b out) (down_check b (length out)) out mw pw

-- ---- the contracts: the input as above, then what the call returns and leaves

abbrev pub WriteCall : Version → ℕ → ℕ → List ℕ → List ℕ → List ℕ → List Float → List Float → List ℕ → List ℕ → ℕ → List ℕ → List ℕ → Type 0
WriteCall v n p sw sources targets x y out pw r pw' out' = called_out r [] pw' out' ≡ write_words v n p sw sources targets x y out pw

abbrev pub UpCall : List ℕ → ℕ → List ℕ → List ℕ → List ℕ → ℕ → List ℕ → List ℕ → List ℕ → Type 0
UpCall b family out mw pw r mw' pw' out' = called_out r mw' pw' out' ≡ move_up_words b family out mw pw

abbrev pub DownCall : List ℕ → List ℕ → List ℕ → List ℕ → ℕ → List ℕ → List ℕ → List ℕ → Type 0
DownCall b out mw pw r mw' pw' out' = called_out r mw' pw' out' ≡ move_down_words b out mw pw
