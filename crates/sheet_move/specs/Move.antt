-- A sheet moved to the other version: its body behind another front, and the refusals of 02's T-04 in their order. Definitions only.
use Rattle.sheet_move.specs.declared.Moved.{Moved}
use Rattle.refusal.specs.declared.Refusal.{Refusal}
use Rattle.std.specs.Prelude.{List, ℕ, ◌+◌, ◌-◌, leb, length, Result, ⊤, Ok, Err}
use Rattle.arrays.specs.Part.{put}
use Rattle.refusal.specs.declared.Refusal.TheVariants.{Size, Length}
use Rattle.refusal.specs.Refusal.{number_of, place_of}
use Rattle.refusal.specs.Checks.{ask}
use Rattle.refusal.specs.Sizes.{in_size}
use Rattle.sheet_front.specs.declared.Version.TheVariants.{One, Two}
use Rattle.sheet_front.specs.Front.{body_of, family_of, sheet_with}
use Rattle.sheet_header.specs.Header.{n_of, p_of, accept_check}
use Rattle.sheet.specs.Rows.{ahead, rows_from}
use Rattle.sheet.specs.Sheet.{remains}

-- ---- the bytes: the body as it stands, so number bits too

-- of version 1, with a family
unfoldable pub up_of : ℕ → List ℕ → List ℕ
up_of family b = sheet_with (Two family) (body_of b)

-- of version 2
unfoldable pub down_of : List ℕ → List ℕ
down_of b = sheet_with One (body_of b)

-- ---- the refusals

-- 14 and 15 of a body whose length is right, then 1 by the rows that remain
unfoldable pub body_moves : List ℕ → Result ⊤ Refusal
body_moves b = ahead (rows_from b (p_of b) (n_of b) 0) (ask (in_size (remains b) (p_of b)) Size (Ok tt))

-- 11 to 15 of a sheet of version v alone, then 1
unfoldable pub move_check : ℕ → List ℕ → Result ⊤ Refusal
move_check v b = ahead (accept_check v v b) (body_moves (body_of b))

-- ahead of all others 2, where the output is shorter than what would be written
unfoldable pub up_check : List ℕ → ℕ → Result ⊤ Refusal
up_check b room = ask (leb (length b + 4) room) Length (move_check 1 b)

unfoldable pub down_check : List ℕ → ℕ → Result ⊤ Refusal
down_check b room = ask (leb (length b - 4) room) Length (move_check 2 b)

-- ---- the whole calls: the answer, and the final content of the output

-- k bytes, with a family
abbrev pub moved_with : ℕ → ℕ → Moved
moved_with k family = record { bytes = k; family = family }

pub data Outcome : Type 0 where
  outcome : Result Moved Refusal → List ℕ → Outcome

-- how many bytes are written, and the family; 01's number and place
pub data Said : Type 0 where
  sheet : ℕ → ℕ → Said
  refused : ℕ → ℕ → Said

abbrev pub said : Result Moved Refusal → Said
said (Ok m) = sheet m.bytes m.family
said (Err r) = refused (number_of r) (place_of r)

-- a refusal writes nothing; a sheet is laid at the output's front, and what is behind it stays
abbrev pub moved_by : Result ⊤ Refusal → List ℕ → ℕ → List ℕ → Outcome
moved_by (Err r) bytes family out = outcome (Err r) out
moved_by (Ok tt) bytes family out = outcome (Ok (moved_with (length bytes) family)) (put out 0 bytes)

unfoldable pub up_move : List ℕ → ℕ → List ℕ → Outcome
up_move b family out = moved_by (up_check b (length out)) (up_of family b) family out

unfoldable pub down_move : List ℕ → List ℕ → Outcome
down_move b out = moved_by (down_check b (length out)) (down_of b) (family_of b) out
