-- The rows of a training sheet's body: the refusals 14 and 15 in 01's order, the rows that remain without the cancelled ones, and what these decode to.
-- Definitions only.
use Rattle.refusal.specs.declared.Refusal.{Refusal}
use Rattle.std.specs.Prelude.{Bool, true, ◌&&◌, ◌||◌, cond, List, [], ◌∷◌, ◌++◌, ℕ, zero, suc, ◌+◌, ◌*◌, leb, ltb, eqb, length, get_or, Float, Result, ⊤, Ok, Err}
use Rattle.numbers.specs.Ops.{f64}
use Rattle.arrays.specs.Part.{tab}
use Rattle.matrices.specs.Grid.{grid}
use Rattle.refusal.specs.declared.Refusal.TheVariants.{Size, Length, Claim, Pair}
use Rattle.refusal.specs.Checks.{ask}
use Rattle.refusal.specs.Sizes.{in_size}
use Rattle.big_endian.specs.Bytes.{big_endian, two_bytes, float_at}
use Rattle.sheet_header.specs.Header.{row_at}

-- ---- row i: its two claims, p features, its score

abbrev pub source_of : List ℕ → ℕ → ℕ → ℕ
source_of b p i = two_bytes b (row_at p i)

abbrev pub target_of : List ℕ → ℕ → ℕ → ℕ
target_of b p i = two_bytes b (row_at p i + 2)

abbrev pub feature_of : List ℕ → ℕ → ℕ → ℕ → Float
feature_of b p i j = float_at b (row_at p i + 4 + 8 * j)

abbrev pub score_bits : List ℕ → ℕ → ℕ → ℕ
score_bits b p i = big_endian b (row_at p i + 4 + 8 * p) 8

abbrev pub score_of : List ℕ → ℕ → ℕ → Float
score_of b p i = f64 (score_bits b p i)

-- ---- the rows that remain

-- the rows left of the first n, in order: those whose target is not 0
unfoldable pub left_of : (ℕ → ℕ) → ℕ → List ℕ
left_of target zero = []
left_of target (suc i) = left_of target i ++ cond (eqb (target i) 0) [] (i ∷ [])

-- of a body
abbrev pub cancelled : List ℕ → ℕ → ℕ → Bool
cancelled b p i = eqb (target_of b p i) 0

abbrev pub remaining : List ℕ → ℕ → ℕ → List ℕ
remaining b p n = left_of (target_of b p) n

-- ---- 14 and 15

-- a check's answer, and the next one's where it is fine
abbrev pub ahead : Result ⊤ Refusal → Result ⊤ Refusal → Result ⊤ Refusal
ahead (Ok tt) rest = rest
ahead (Err r) rest = Err r

-- a claim number is from 1 to 999
abbrev pub is_claim : ℕ → Bool
is_claim c = leb 1 c && leb c 999

-- a cancelled claim has target 0, and all bits of its score are 0
unfoldable pub claims_fine : ℕ → ℕ → ℕ → Bool
claims_fine source target score = is_claim source && (is_claim target || (eqb target 0 && eqb score 0))

-- a pair above the one before: by the source first
abbrev pub above : ℕ → ℕ → ℕ → ℕ → Bool
above s t s' t' = ltb s s' || (eqb s s' && ltb t t')

-- row i's pair is above that of the row before; the first row has none before it
abbrev pub rises : (ℕ → ℕ) → (ℕ → ℕ) → ℕ → Bool
rises source target zero = true
rises source target (suc i) = above (source i) (target i) (source (suc i)) (target (suc i))

-- 14, then 15, row by row: `left` rows from row i on, each with its two claims and the bits of its score; the place is the row, cancelled ones counted
unfoldable pub pairs_from : (ℕ → ℕ) → (ℕ → ℕ) → (ℕ → ℕ) → ℕ → ℕ → Result ⊤ Refusal
pairs_from source target score zero i = Ok tt
pairs_from source target score (suc left) i =
    ask (claims_fine (source i) (target i) (score i)) (Claim i)
    (ask (rises source target i) (Pair i)
    (pairs_from source target score left (i + 1)))

-- of a body's rows
abbrev pub rows_from : List ℕ → ℕ → ℕ → ℕ → Result ⊤ Refusal
rows_from b p left i = pairs_from (source_of b p) (target_of b p) (score_bits b p) left i

-- 1 and 2, for n rows that remain and lent slices of these lengths
unfoldable pub room_check : ℕ → ℕ → ℕ → ℕ → Result ⊤ Refusal
room_check n p xl yl =
    ask (in_size n p) Size
    (ask (eqb xl (n * p) && eqb yl n) Length (Ok tt))

-- ---- what n rows decode to: a row's place in the matrix is its order among those that remain, and no claim number occurs

unfoldable pub matrix_of : List ℕ → ℕ → ℕ → List Float
matrix_of b n p =
    let rows = remaining b p n in
    grid (λ i j. feature_of b p (get_or rows i 0) j) (length rows) p

unfoldable pub targets_of : List ℕ → ℕ → ℕ → List Float
targets_of b n p =
    let rows = remaining b p n in
    tab (λ i. score_of b p (get_or rows i 0)) (length rows)
