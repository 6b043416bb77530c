-- What the calls over bytes and words return and leave. Definitions only.
use Rattle.sheet_header.specs.declared.Header.{Header}
use Rattle.refusal.specs.declared.Refusal.{Refusal}
use Rattle.std.specs.Prelude.{◌≡◌, ◌&&◌, cond, List, [], ℕ, eqb, length, Float, Result}
use Rattle.sheet_header.specs.Header.{header_read}
use Rattle.sheet.specs.Sheet.{rows_read, Outcome, outcome, sheet_of}
use Rattle.sheet_words.specs.Words.{header-words, number_in, header_in, place_words, unread}

-- the number of a refusal, or 0; the header's words, the place's word, matrix and targets
pub data Called : Type 0 where
  called : ℕ → List ℕ → List ℕ → List Float → List Float → Called

-- what is read, as the call returns and leaves it
unfoldable pub read_as : List ℕ → List ℕ → Outcome → Called
read_as hw pw (outcome o x y) = called (number_in o) (header_in o hw) (place_words o pw) x y

abbrev pub answer_in : Outcome → Result Header Refusal
answer_in (outcome o x y) = o

-- the sheet's bytes, R, C, header; what a header alone refuses has no place
unfoldable pub read_header_words : List ℕ → ℕ → ℕ → List ℕ → Called
read_header_words b R C hw =
    let o = header_read b R C in
    read_as hw [] (outcome (cond (eqb (length hw) header-words) o (unread o)) [] [])

-- the sheet's bytes, R, C, header, place
unfoldable pub count_rows_words : List ℕ → ℕ → ℕ → List ℕ → List ℕ → Called
count_rows_words b R C hw pw =
    let o = rows_read b R C in
    read_as hw pw (outcome (cond (eqb (length hw) header-words && eqb (length pw) 1) o (unread o)) [] [])

-- the sheet's bytes, R, C, matrix, targets, header, place
unfoldable pub read_sheet_words : List ℕ → ℕ → ℕ → List Float → List Float → List ℕ → List ℕ → Called
read_sheet_words b R C x y hw pw =
    let o = sheet_of b R C x y in
    read_as hw pw (cond (eqb (length hw) header-words && eqb (length pw) 1) o (outcome (unread (answer_in o)) x y))

-- ---- the contracts: the input as above, then what the call returns and leaves

abbrev pub HeaderCall : List ℕ → ℕ → ℕ → List ℕ → ℕ → List ℕ → Type 0
HeaderCall b R C hw r hw' = called r hw' [] [] [] ≡ read_header_words b R C hw

abbrev pub CountCall : List ℕ → ℕ → ℕ → List ℕ → List ℕ → ℕ → List ℕ → List ℕ → Type 0
CountCall b R C hw pw r hw' pw' = called r hw' pw' [] [] ≡ count_rows_words b R C hw pw

abbrev pub SheetCall : List ℕ → ℕ → ℕ → List Float → List Float → List ℕ → List ℕ → ℕ → List ℕ → List ℕ → List Float → List Float → Type 0
SheetCall b R C x y hw pw r hw' pw' x' y' = called r hw' pw' x' y' ≡ read_sheet_words b R C x y hw pw
