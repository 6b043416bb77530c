-- What cancelled rows change: nothing where there are none, nothing by their features, nothing against a sheet without them, and 1 where no row remains.
-- Assumes nothing.
use Rattle.refusal.specs.declared.Refusal.{Refusal}
use Rattle.std.specs.Prelude.{Err, Ok, Result}
use mathlib.Core.Path.{◌≡◌, refl, sym, ap, ◌∙◌}
use mathlib.Core.List.{List}
use Prim.Native.Nat.{ℕ, ◌+◌, ◌*◌, ◌≤◌, ◌<◌}
use native.Mathlib.Omega.{arith}
use lib.ListN.{length, get_or, length-drop}
use lib.Seq.{get_or-drop}
use lib.Ieee.{Float}
use borrow.Author.Tests.{eqb-false, eq-eqb, ne_eqb}
use Rattle.arrays.specs.Part.{tab}
use Rattle.arrays.proofs.Part.{length-tab, get_or-tab, tab-ext}
use Rattle.matrices.specs.Grid.{grid}
use Rattle.matrices.proofs.Grid.{grid-ext}
use Rattle.refusal.proofs.Sizes.{InSize}
use Rattle.big_endian.specs.Bytes.{big_endian, float_at}
use Rattle.big_endian.proofs.Bytes.{same_bytes}
use Rattle.sheet_front.specs.Front.{version_of, body_at, body_of}
use Rattle.sheet_header.specs.declared.Header.{Header}
use Rattle.sheet_header.specs.Header.{row_at, body_check, header_of, accept_check, header_check, header_read, Said.refused, said}
use Rattle.sheet.specs.Rows.{source_of, target_of, feature_of, score_of, score_bits, rows_from, remaining, matrix_of, targets_of}
use Rattle.sheet.specs.Sheet.{body_rows, rows_read, body_read, by_count, sheet_of}
use Rattle.sheet.proofs.Rows.{same-pairs}
use Rattle.sheet.proofs.Remaining.{all-remain, none-remain, same_left, uncancelled}
use Rattle.sheet.proofs.Laws.{rows_in, columns-in, rows_left, Reads, BytesFine, counts-remaining, FirstRefusal.size, first-refusal}

-- where no target is 0, the rows that remain are 0 to n - 1, and matrix and targets are by the sheet's rows
pub no-cancelled : (b : List ℕ) (p n : ℕ) → ((i : ℕ) → i < n → target_of b p i ≡ 0 → ⊥)
    → (remaining b p n ≡ tab (λ i. i) n)
    × (length (remaining b p n) ≡ n)
    × (matrix_of b n p ≡ grid (λ i j. float_at b (row_at p i + 4 + 8 * j)) n p)
    × (targets_of b n p ≡ tab (λ i. float_at b (row_at p i + 4 + 8 * p)) n)
unfolding matrix_of targets_of
no-cancelled b p n h =
    let e = all-remain b p n (λ i l. ne_eqb _ 0 (h i l)) in
    let place : (i : ℕ) → i < n → get_or (tab (λ k. k) n) i 0 ≡ i = λ i l. get_or-tab (λ k. k) n i 0 l in (
      e,
      ap length e ∙ length-tab (λ k. k) n,
      rw (e, length-tab (λ k. k) n) (grid-ext _ _ n p (λ i j l k. ap (λ (r : ℕ). feature_of b p r j) (place i l))),
      rw (e, length-tab (λ k. k) n) (tab-ext _ _ n (λ i l. ap (λ (r : ℕ). float_at b (row_at p r + 4 + 8 * p)) (place i l))),
    )

-- where every target is 0 and nothing before 1 refuses the sheet: 1, and nothing is written
pub none-remains : (b : List ℕ) (R C : ℕ) (x y : List Float) {r : Result Header Refusal} {x' y' : List Float} → Reads b R C x y r x' y' → BytesFine b
    → ((i : ℕ) → i < rows_in b → target_of (body_of b) (columns-in b) i ≡ 0) → (said r ≡ refused 1 0) × (x' ≡ x) × (y' ≡ y)
none-remains b R C x y c w h =
    let e : rows_left b ≡ 0 = ap length (none-remain (body_of b) (columns-in b) (rows_in b) (λ i l. eq-eqb _ 0 (h i l))) in
    first-refusal b R C x y c (size w (λ (z : InSize (rows_left b) (columns-in b)). omega (arith, z.some-rows)))

-- two sheets with one count, one matrix and the same targets have one outcome
one-outcome : (b b' : List ℕ) (R C : ℕ) → rows_read b R C ≡ rows_read b' R C
    → matrix_of (body_of b) (rows_in b) (columns-in b) ≡ matrix_of (body_of b') (rows_in b') (columns-in b')
    → targets_of (body_of b) (rows_in b) (columns-in b) ≡ targets_of (body_of b') (rows_in b') (columns-in b')
    → (x y : List Float) → sheet_of b R C x y ≡ sheet_of b' R C x y
unfolding sheet_of body_read
one-outcome b b' R C e m t x y = rw e (go (rows_read b' R C)) where
  go : (o : Result Header Refusal) → by_count o (body_of b) x y ≡ by_count o (body_of b') x y
  go (Err r) = refl
  go (Ok h) = rw (m, t)

-- ---- a sheet, and one that has those of its rows alone that remain

pub record Dropped (b b₀ : List ℕ) : Type 0 where
  pub header : (n R C : ℕ) → header_of (body_of b) n R C ≡ header_of (body_of b₀) n R C
  pub rows : rows_left b ≡ rows_in b₀
  pub targets : (k : ℕ) → k < rows_in b₀ → target_of (body_of b₀) (columns-in b) k ≡ 0 → ⊥
  pub features : (k j : ℕ) → k < rows_in b₀ → j < columns-in b
      → feature_of (body_of b₀) (columns-in b) k j ≡ feature_of (body_of b) (columns-in b) (get_or (remaining (body_of b) (columns-in b) (rows_in b)) k 0) j
  pub scores : (k : ℕ) → k < rows_in b₀
      → score_of (body_of b₀) (columns-in b) k ≡ score_of (body_of b) (columns-in b) (get_or (remaining (body_of b) (columns-in b) (rows_in b)) k 0)

module _ (b b₀ : List ℕ) (a : Dropped b b₀) where
  pub columns : columns-in b ≡ columns-in b₀
  unfolding header_of
  columns = ap (λ (h : Header). h.p) (a.header 0 0 0)

  -- no row of the second is cancelled
  whole : let d = body_of b₀ in
      let p = columns-in b in
      (rows_left b₀ ≡ rows_in b₀) × (matrix_of d (rows_in b₀) p ≡ grid (feature_of d p) (rows_in b₀) p) × (targets_of d (rows_in b₀) p ≡ tab (score_of d p) (rows_in b₀))
  whole =
      let w = no-cancelled (body_of b₀) (columns-in b) (rows_in b₀) a.targets in
      (rw (← columns) w.1, w.2, w.3)

  same_numbers : (matrix_of (body_of b) (rows_in b) (columns-in b) ≡ matrix_of (body_of b₀) (rows_in b₀) (columns-in b₀))
      × (targets_of (body_of b) (rows_in b) (columns-in b) ≡ targets_of (body_of b₀) (rows_in b₀) (columns-in b₀))
  unfolding matrix_of targets_of
  same_numbers =
      rw (← columns, whole.1, whole.2, a.rows)
      (grid-ext _ _ (rows_in b₀) (columns-in b) (λ k j l m. sym (a.features k j l m)), tab-ext _ _ (rows_in b₀) (λ k l. sym (a.scores k l)))

  -- where neither is refused by its bytes, they have one count and one outcome
  module _ (w : BytesFine b) (w₀ : BytesFine b₀) (R C : ℕ) where
    pub dropped-count : rows_read b R C ≡ rows_read b₀ R C
    dropped-count = rw (counts-remaining b R C refl w, counts-remaining b₀ R C refl w₀, a.rows, whole.0, a.header (rows_in b₀) R C)

    pub as-if-dropped : (x y : List Float) → sheet_of b R C x y ≡ sheet_of b₀ R C x y
    as-if-dropped = one-outcome b b₀ R C dropped-count same_numbers.0 same_numbers.1

-- ---- two sheets that agree in length, header, claims, scores and the features of the rows that remain

pub record Alike (b b' : List ℕ) : Type 0 where
  pub long : length b ≡ length b'
  pub header : (k : ℕ) → k < body_at (version_of b) + 33 → get_or b k 0 ≡ get_or b' k 0
  pub sources : (i : ℕ) → i < rows_in b → source_of (body_of b) (columns-in b) i ≡ source_of (body_of b') (columns-in b) i
  pub targets : (i : ℕ) → i < rows_in b → target_of (body_of b) (columns-in b) i ≡ target_of (body_of b') (columns-in b) i
  pub scores : (i : ℕ) → i < rows_in b → score_bits (body_of b) (columns-in b) i ≡ score_bits (body_of b') (columns-in b) i
  pub features : (i j : ℕ) → i < rows_in b → j < columns-in b → (target_of (body_of b) (columns-in b) i ≡ 0 → ⊥)
      → feature_of (body_of b) (columns-in b) i j ≡ feature_of (body_of b') (columns-in b) i j

module _ (b b' : List ℕ) (a : Alike b b') where
  -- ---- the header

  version : version_of b ≡ version_of b'
  version = a.header 0 (omega arith)

  byte : (k : ℕ) → k < 33 → get_or (body_of b) k 0 ≡ get_or (body_of b') k 0
  byte k h =
      get_or-drop (body_at (version_of b)) b k 0
      ∙ a.header (body_at (version_of b) + k) (omega arith)
      ∙ ap (λ (v : ℕ). get_or b' (body_at v + k) 0) version
      ∙ sym (get_or-drop (body_at (version_of b')) b' k 0)

  field : (at k : ℕ) → at + k ≤ 33 → big_endian (body_of b) at k ≡ big_endian (body_of b') at k
  field at k h = same_bytes (body_of b) (body_of b') at at k (λ j l. byte (at + j) (omega arith))

  flags : get_or (body_of b) 32 0 ≡ get_or (body_of b') 32 0
  flags = byte 32 (omega arith)

  long : length (body_of b) ≡ length (body_of b')
  long =
      let e : body_at (version_of b) ≡ body_at (version_of b') = ap body_at version in
      omega (arith, e, a.long, length-drop (body_at (version_of b)) b, length-drop (body_at (version_of b')) b')

  same_check : header_check b ≡ header_check b'
  unfolding accept_check body_check
  same_check =
      let size = same_bytes b b' 1 1 4 (λ j l. a.header (1 + j) (omega arith)) in
      rw (a.long, size, long, field 2 2 (omega arith), field 0 2 (omega arith), flags, version)

  same-header : (n R C : ℕ) → header_of (body_of b) n R C ≡ header_of (body_of b') n R C
  unfolding header_of
  same-header n R C =
      rw (field 2 2 (omega arith), field 4 8 (omega arith), field 12 8 (omega arith), field 20 8 (omega arith), field 28 4 (omega arith), flags)

  -- ---- the rows

  abbrev n : ℕ
  n = rows_in b

  abbrev p : ℕ
  p = columns-in b

  same_rows : rows_from (body_of b) p n 0 ≡ rows_from (body_of b') p n 0
  same_rows = same-pairs n (λ i l. (a.sources i l, a.targets i l, a.scores i l)) n 0 (omega arith)

  same_rest : remaining (body_of b) p n ≡ remaining (body_of b') p n
  same_rest = same_left (target_of (body_of b) p) (target_of (body_of b') p) n a.targets

  same-matrix : matrix_of (body_of b) n p ≡ matrix_of (body_of b') (rows_in b') (columns-in b')
  unfolding matrix_of
  same-matrix =
      rw (← field 0 2 (omega arith), ← field 2 2 (omega arith), ← same_rest) (grid-ext _ _ _ p (λ i j l m.
      let k = uncancelled (body_of b) p n i l in
      a.features _ j k.0 m (eqb-false _ 0 k.1)))

  same-targets : targets_of (body_of b) n p ≡ targets_of (body_of b') (rows_in b') (columns-in b')
  unfolding targets_of
  same-targets = rw (← field 0 2 (omega arith), ← field 2 2 (omega arith), ← same_rest) (tab-ext _ _ _ (λ i l. rw (a.scores _ (uncancelled (body_of b) p n i l).0)))

  -- they have one header, one count and one outcome
  pub same-header-read : (R C : ℕ) → header_read b R C ≡ header_read b' R C
  unfolding header_read
  same-header-read R C = rw (same_check, ← field 0 2 (omega arith), same-header n R C)

  pub same_count : (R C : ℕ) → rows_read b R C ≡ rows_read b' R C
  unfolding rows_read body_rows
  same_count R C =
      rw (same_check, ← field 0 2 (omega arith), ← field 2 2 (omega arith), ← same_rest, same-header (rows_left b) R C, same_rows)

  pub cancelled-ignored : (R C : ℕ) (x y : List Float) → sheet_of b R C x y ≡ sheet_of b' R C x y
  cancelled-ignored R C = one-outcome b b' R C (same_count R C) same-matrix same-targets
