-- The two calls over a whole sheet, in 01's order of refusals: how many rows remain, and what the sheet decodes to. Definitions only.
use Rattle.refusal.specs.declared.Refusal.{Refusal}
use Rattle.std.specs.Prelude.{List, ℕ, length, Float, Result, ⊤, Ok, Err}
use Rattle.sheet_front.specs.Front.{body_of}
use Rattle.sheet_header.specs.declared.Header.{Header}
use Rattle.sheet_header.specs.Header.{n_of, p_of, header_of, header_check, read_by}
use Rattle.sheet.specs.Rows.{rows_from, remaining, room_check, matrix_of, targets_of}

-- how many rows of a body remain: the n of 1, 2 and the fit
abbrev pub remains : List ℕ → ℕ
remains b = length (remaining b (p_of b) (n_of b))

-- 14 and 15 of all rows of a body whose length is right, then its header with the n that remains
unfoldable pub body_rows : List ℕ → ℕ → ℕ → Result Header Refusal
body_rows b R C = read_by (rows_from b (p_of b) (n_of b) 0) (Ok (header_of b (remains b) R C))

-- 11 to 15
unfoldable pub rows_read : List ℕ → ℕ → ℕ → Result Header Refusal
rows_read b R C = read_by (header_check b) (body_rows (body_of b) R C)

-- ---- the whole call: the answer, and the final content of matrix and targets

pub data Outcome : Type 0 where
  outcome : Result Header Refusal → List Float → List Float → Outcome

-- a refusal changes nothing
abbrev pub by_check : Result ⊤ Refusal → List Float → List Float → Outcome → Outcome
by_check (Ok tt) x y o = o
by_check (Err r) x y o = outcome (Err r) x y

-- 1 and 2 of a body with this header, then what its rows decode to
unfoldable pub body_read : List ℕ → Header → List Float → List Float → Outcome
body_read b h x y =
    by_check (room_check h.n h.p (length x) (length y)) x y
    (outcome (Ok h) (matrix_of b (n_of b) (p_of b)) (targets_of b (n_of b) (p_of b)))

-- what is refused by its bytes changes nothing either
abbrev pub by_count : Result Header Refusal → List ℕ → List Float → List Float → Outcome
by_count (Err r) b x y = outcome (Err r) x y
by_count (Ok h) b x y = body_read b h x y

-- the refusals of the bytes come first, and n is what remains
unfoldable pub sheet_of : List ℕ → ℕ → ℕ → List Float → List Float → Outcome
sheet_of b R C x y = by_count (rows_read b R C) (body_of b) x y
