-- A sheet is a front and a body. The front: the version, in 4 bytes the number of those that follow them, and in version 2 a family in 4 bytes.
-- Definitions only.
use Rattle.std.specs.Prelude.{cond, List, ◌∷◌, ◌++◌, ℕ, ◌+◌, eqb, length, get_or, drop}
use Rattle.big_endian.specs.Bytes.{four_bytes, bytes_of}
use Rattle.sheet_front.specs.declared.Version.{Version}
use Rattle.sheet_front.specs.declared.Version.TheVariants.{One, Two}

-- ---- of a sheet

abbrev pub version_of : List ℕ → ℕ
version_of b = get_or b 0 0

-- the number of the bytes behind it
abbrev pub rest_of : List ℕ → ℕ
rest_of b = four_bytes b 1

-- of version 2
abbrev pub family_of : List ℕ → ℕ
family_of b = four_bytes b 5

-- where the body begins, by the version
abbrev pub body_at : ℕ → ℕ
body_at v = cond (eqb v 2) 9 5

abbrev pub body_of : List ℕ → List ℕ
body_of b = drop (body_at (version_of b)) b

-- ---- for a body

abbrev pub front_bytes : Version → ℕ
front_bytes One = 5
front_bytes (Two family) = 9

-- the front of a body of k bytes
abbrev pub front_of : Version → ℕ → List ℕ
front_of One k = 1 ∷ bytes_of 4 k
front_of (Two family) k = 2 ∷ (bytes_of 4 (k + 4) ++ bytes_of 4 family)

abbrev pub sheet_with : Version → List ℕ → List ℕ
sheet_with v body = front_of v (length body) ++ body
