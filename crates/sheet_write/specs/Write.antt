-- A sheet written from rows: its bytes, and the refusals of 02's T-04 in their order. Definitions only.
use Rattle.refusal.specs.declared.Refusal.{Refusal}
use Rattle.std.specs.Prelude.{Bool, ◌&&◌, List, [], ◌∷◌, ◌++◌, ℕ, zero, suc, ◌+◌, ◌*◌, leb, eqb, length, get_or, Float, Result, ⊤, Ok, Err}
use Rattle.std.specs.Float.{binary64}
use Rattle.std.specs.Float.Ieee.{to_bits}
use Rattle.arrays.specs.Part.{put}
use Rattle.arrays.specs.Sums.{◌!◌}
use Rattle.refusal.specs.declared.Refusal.TheVariants.{Size, Length, Setting}
use Rattle.refusal.specs.Refusal.{number_of, place_of}
use Rattle.refusal.specs.Checks.{ask}
use Rattle.refusal.specs.Sizes.{in_size}
use Rattle.settings.specs.declared.Settings.{Settings}
use Rattle.settings.specs.Settings.{allowed_of}
use Rattle.big_endian.specs.Bytes.{bytes_of, float_bytes}
use Rattle.sheet_front.specs.declared.Version.{Version}
use Rattle.sheet_front.specs.Front.{front_bytes, sheet_with}
use Rattle.sheet_header.specs.Flags.{flags_for}
use Rattle.sheet_header.specs.Header.{row_at}
use Rattle.sheet.specs.Rows.{pairs_from}

-- what is written: every row, cancelled ones too
pub record Given : Type 0 where
  pub n : ℕ
  pub p : ℕ
  pub settings : Settings
  pub sources : List ℕ
  pub targets : List ℕ
  pub x : List Float
  pub y : List Float

abbrev pub given : ℕ → ℕ → Settings → List ℕ → List ℕ → List Float → List Float → Given
given n p st sources targets x y = record { n = n; p = p; settings = st; sources = sources; targets = targets; x = x; y = y }

-- ---- the bytes

-- the lists f 0, f 1, .. f (k - 1), one behind another
unfoldable pub joined : (ℕ → List ℕ) → ℕ → List ℕ
joined f zero = []
joined f (suc k) = joined f k ++ f k

-- n, p, alpha, l1_ratio, tol, M, flags; R and C are not in a sheet
unfoldable pub head_bytes : ℕ → ℕ → Settings → List ℕ
head_bytes n p st =
    bytes_of 2 n ++ (bytes_of 2 p ++ (float_bytes st.alpha ++ (float_bytes st.l1_ratio ++ (float_bytes st.tol
    ++ (bytes_of 4 st.max_iter ++ (flags_for st ∷ []))))))

-- a row: two claims, p features from place `from` on, a score
unfoldable pub row_bytes : ℕ → ℕ → ℕ → List Float → ℕ → Float → List ℕ
row_bytes p source target x from score =
    bytes_of 2 source ++ (bytes_of 2 target ++ (joined (λ j. float_bytes (x ! (from + j))) p ++ float_bytes score))

abbrev pub rows_bytes : ℕ → List ℕ → List ℕ → List Float → List Float → ℕ → List ℕ
rows_bytes p sources targets x y n = joined (λ i. row_bytes p (get_or sources i 0) (get_or targets i 0) x (i * p) (y ! i)) n

unfoldable pub body_bytes : Given → List ℕ
body_bytes g = head_bytes g.n g.p g.settings ++ rows_bytes g.p g.sources g.targets g.x g.y g.n

-- ---- the refusals

-- 2: a source, a target and a score for each row, and n * p features
abbrev pub lengths_fine : Given → Bool
lengths_fine g = eqb (length g.sources) g.n && eqb (length g.targets) g.n && eqb (length g.y) g.n && eqb (length g.x) (g.n * g.p)

-- 14 and 15 of its rows
abbrev pub claims_of : Given → Result ⊤ Refusal
claims_of g = pairs_from (λ i. get_or g.sources i 0) (λ i. get_or g.targets i 0) (λ i. to_bits binary64 (g.y ! i)) g.n 0

-- 1, by all rows; 2; 3; 14 and 15
unfoldable pub given_check : Given → Result ⊤ Refusal
given_check g =
    ask (in_size g.n g.p) Size
    (ask (lengths_fine g) Length
    (ask (allowed_of g.settings) Setting
    (claims_of g)))

-- the bytes of a sheet of n rows of p features: 38 (42) + n(12 + 8p)
abbrev pub sheet_length : Version → ℕ → ℕ → ℕ
sheet_length v n p = front_bytes v + row_at p n

-- ahead of all others 2, where the output has not so many
unfoldable pub write_check : Version → Given → ℕ → Result ⊤ Refusal
write_check v g room = ask (leb (sheet_length v g.n g.p) room) Length (given_check g)

-- ---- the whole call: the answer, and the final content of the output

pub data Outcome : Type 0 where
  outcome : Result ℕ Refusal → List ℕ → Outcome

-- how many bytes are written; 01's number and place
pub data Said : Type 0 where
  sheet : ℕ → Said
  refused : ℕ → ℕ → Said

abbrev pub said : Result ℕ Refusal → Said
said (Ok k) = sheet k
said (Err r) = refused (number_of r) (place_of r)

-- a refusal writes nothing; a sheet is laid at the output's front, and what is behind it stays
abbrev pub laid_by : Result ⊤ Refusal → List ℕ → List ℕ → Outcome
laid_by (Err r) bytes out = outcome (Err r) out
laid_by (Ok tt) bytes out = outcome (Ok (length bytes)) (put out 0 bytes)

unfoldable pub written_of : Version → Given → List ℕ → Outcome
written_of v g out = laid_by (write_check v g (length out)) (sheet_with v (body_bytes g)) out
