-- The training sheet up to its rows: the format of its header, the refusals 11 to 13 in 01's order, and what the header decodes to. Definitions only.
use Rattle.refusal.specs.declared.Refusal.{Refusal}
use Rattle.std.specs.Prelude.{◌&&◌, List, ℕ, ◌+◌, ◌*◌, leb, eqb, length, get_or, Float, Result, ⊤, Ok, Err}
use Rattle.refusal.specs.declared.Refusal.TheVariants.{Version, SheetLength, Flags}
use Rattle.refusal.specs.Refusal.{number_of, place_of}
use Rattle.refusal.specs.Checks.{ask}
use Rattle.big_endian.specs.Bytes.{two_bytes, four_bytes, float_at}
use Rattle.sheet_front.specs.Front.{version_of, rest_of, body_of}
use Rattle.sheet_header.specs.declared.Header.{Header}
use Rattle.sheet_header.specs.Flags.{flags_fine, normalise_in, lazy_in}

-- ---- a body, which is the same in both versions
-- n from 0, p from 2, alpha from 4, l1_ratio from 12, tol from 20, M from 28, flags at 32, the rows from 33

-- n counts all rows, cancelled ones too
abbrev pub n_of : List ℕ → ℕ
n_of b = two_bytes b 0

abbrev pub p_of : List ℕ → ℕ
p_of b = two_bytes b 2

abbrev pub alpha_of : List ℕ → Float
alpha_of b = float_at b 4

abbrev pub ratio_of : List ℕ → Float
ratio_of b = float_at b 12

abbrev pub tol_of : List ℕ → Float
tol_of b = float_at b 20

abbrev pub max_iter_of : List ℕ → ℕ
max_iter_of b = four_bytes b 28

abbrev pub flags_of : List ℕ → ℕ
flags_of b = get_or b 32 0

-- the bytes of a row of p features, and where row i begins
abbrev pub row-bytes : ℕ → ℕ
row-bytes p = 12 + 8 * p

abbrev pub row_at : ℕ → ℕ → ℕ
row_at p i = 33 + i * row-bytes p

-- 12 where the body is not of 33 + n(12 + 8p) bytes, 13
unfoldable pub body_check : List ℕ → Result ⊤ Refusal
body_check b =
    ask (eqb (length b) (row_at (p_of b) (n_of b))) SheetLength
    (ask (flags_fine (flags_of b)) Flags (Ok tt))

-- the header of a body, with n for its rows; R and C are the caller's; the settings are not checked here
unfoldable pub header_of : List ℕ → ℕ → ℕ → ℕ → Header
header_of b n R C = record {
  n = n;
  p = p_of b;
  settings = record {
    alpha = alpha_of b;
    l1_ratio = ratio_of b;
    tol = tol_of b;
    max_iter = max_iter_of b;
    panel_rows = R;
    panel_cols = C;
    normalise = normalise_in (flags_of b);
    lazy = lazy_in (flags_of b);
  };
}

-- ---- a sheet: its front, and its body

-- where the versions from `first` to `last` are accepted: 12 under 5 bytes, 11, 12 where another number of bytes follows than the length says, 12 and 13 of the
-- body
unfoldable pub accept_check : ℕ → ℕ → List ℕ → Result ⊤ Refusal
accept_check first last b =
    ask (leb 5 (length b)) SheetLength
    (ask (leb first (version_of b) && leb (version_of b) last) Version
    (ask (eqb (rest_of b + 5) (length b)) SheetLength
    (body_check (body_of b))))

-- a reader takes both
abbrev pub header_check : List ℕ → Result ⊤ Refusal
header_check b = accept_check 1 2 b

-- an answer where nothing is refused before it
abbrev pub read_by : Result ⊤ Refusal → Result Header Refusal → Result Header Refusal
read_by (Ok tt) o = o
read_by (Err r) o = Err r

-- the header alone: 11 to 13
unfoldable pub header_read : List ℕ → ℕ → ℕ → Result Header Refusal
header_read b R C = read_by (header_check b) (Ok (header_of (body_of b) (n_of (body_of b)) R C))

-- 01's number and place
pub data Said : Type 0 where
  sheet : Header → Said
  refused : ℕ → ℕ → Said

abbrev pub said : Result Header Refusal → Said
said (Ok h) = sheet h
said (Err r) = refused (number_of r) (place_of r)
