-- What the calls for C and Rust say of a sheet in words. Definitions only.
use Rattle.refusal.specs.declared.Refusal.{Refusal}
use Rattle.std.specs.Prelude.{cond, List, [], ◌∷◌, ℕ, ◌+◌, eqb, length, Result, ⊤, Ok, Err}
use Rattle.refusal.specs.declared.Refusal.TheVariants.{Length}
use Rattle.refusal.specs.Refusal.{number_of, place_of}
use Rattle.sheet_header.specs.declared.Header.{Header}
use Rattle.c_values.specs.Settings.{settings-words, settings_words}

-- n, p, and the settings as the fit's calls take them
abbrev pub header-words : ℕ
header-words = 2 + settings-words

unfoldable pub header_words : Header → List ℕ
header_words h = h.n ∷ h.p ∷ settings_words h.settings

-- what an answer says as a check: a refusal, or none
abbrev pub check_in : Result Header Refusal → Result ⊤ Refusal
check_in (Ok h) = Ok tt
check_in (Err r) = Err r

abbrev pub number_by : Result ⊤ Refusal → ℕ
number_by (Ok tt) = 0
number_by (Err r) = number_of r

abbrev pub place_by : Result ⊤ Refusal → ℕ
place_by (Ok tt) = 0
place_by (Err r) = place_of r

abbrev pub number_in : Result Header Refusal → ℕ
number_in o = number_by (check_in o)

-- a refusal leaves the header's words as they were
abbrev pub header_in : Result Header Refusal → List ℕ → List ℕ
header_in (Ok h) hw = header_words h
header_in (Err r) hw = hw

-- the place's word is written with every answer, where it is there
abbrev pub place_word : Result ⊤ Refusal → List ℕ → List ℕ
place_word c pw = cond (eqb (length pw) 1) (place_by c ∷ []) pw

abbrev pub place_words : Result Header Refusal → List ℕ → List ℕ
place_words o pw = place_word (check_in o) pw

-- with a slice of the wrong length: 2, where nothing before it refuses the sheet
abbrev pub unread : Result Header Refusal → Result Header Refusal
unread (Ok h) = Err Length
unread (Err r) = Err r
