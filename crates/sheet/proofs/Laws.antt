-- What the contracts of `count_rows` and `read_sheet` say: which refusal for which sheet, that the outcome is one, that a refusal writes nothing,
-- and that a sheet with no fault is read. Assumes nothing.
use Rattle.std.specs.Prelude.{Result, ⊤, Ok, Err}
use mathlib.Core.Path.{◌≡◌, refl, sym, ap, ◌∙◌}
use mathlib.Core.Logic.{◌⊎◌, inl, inr}
use mathlib.Core.List.{List}
use Prim.Native.Nat.{ℕ, ◌*◌, ◌<◌}
use native.Mathlib.Omega.{arith}
use lib.ListN.{length}
use lib.Ieee.{Float}
use Rattle.refusal.specs.declared.Refusal.{Refusal}
use Rattle.refusal.specs.declared.Refusal.TheVariants.{Size, Length, Claim, Pair}
use Rattle.refusal.specs.Refusal.{number_of, place_of}
use Rattle.refusal.proofs.Sizes.{InSize, size-known}
use Rattle.sheet_front.specs.Front.{body_of}
use Rattle.sheet_header.specs.declared.Header.{Header}
use Rattle.sheet_header.specs.Header.{n_of, p_of, header_of, accept_check, header_check, Said.refused, said}
use Rattle.sheet_header.proofs.Checks.{HeadedIn, good-header}
use Rattle.sheet_header.proofs.Laws.{HeaderRefusalIn, header-told, every-header}
use Rattle.sheet.specs.Rows.{rows_from, room_check, matrix_of, targets_of}
use Rattle.sheet.specs.Sheet.{remains, rows_read, Outcome, Outcome.outcome, by_check, body_read, by_count, sheet_of}
use Rattle.sheet.proofs.Checks.{RowClaims, Rises, RowsFine, BadRow, Lengths, rows-known, lengths-known}
use Rattle.sheet.proofs.Checks.{bad-claim, bad-pair, good-rows, bad-size, bad-length, good-room}
use Rattle.sheet.proofs.Outcomes.{count-refused, count-read, sheet-refused, sheet-read, bad-count, counts_all, bad-room, reads_all}

-- n and p of a sheet, and how many of its n rows remain
abbrev pub rows_in : List ℕ → ℕ
rows_in b = n_of (body_of b)

abbrev pub columns-in : List ℕ → ℕ
columns-in b = p_of (body_of b)

abbrev pub rows_left : List ℕ → ℕ
rows_left b = remains (body_of b)

-- the contract of `read_sheet`, for all input: it answers r, and leaves x' and y'
abbrev pub Reads : List ℕ → ℕ → ℕ → List Float → List Float → Result Header Refusal → List Float → List Float → Type 0
Reads b R C x y r x' y' = outcome r x' y' ≡ sheet_of b R C x y

abbrev answer_in : Outcome → Result Header Refusal
answer_in (outcome r x y) = r

abbrev matrix_in : Outcome → List Float
matrix_in (outcome r x y) = x

abbrev targets_in : Outcome → List Float
targets_in (outcome r x y) = y

room-spared : (k : Result ⊤ Refusal) (h : Header) (x y x₁ y₁ : List Float) (q : Refusal) (x' y' : List Float)
    → outcome (Err q) x' y' ≡ by_check k x y (outcome (Ok h) x₁ y₁) → (x' ≡ x) × (y' ≡ y)
room-spared (Err r) h x y x₁ y₁ q x' y' e = (ap matrix_in e, ap targets_in e)
room-spared (Ok tt) h x y x₁ y₁ q x' y' e =
    let z : ◌≡◌ {A = ℕ} 0 1 = cc in
    absurd (omega arith)

spared : (o : Result Header Refusal) (b : List ℕ) (x y : List Float) (q : Refusal) (x' y' : List Float) → outcome (Err q) x' y' ≡ by_count o b x y → (x' ≡ x) × (y' ≡ y)
unfolding body_read
spared (Err r) b x y q x' y' e = (ap matrix_in e, ap targets_in e)
spared (Ok h) b x y q x' y' e = room-spared (room_check h.n h.p (length x) (length y)) h x y _ _ q x' y' e

-- ---- the refusals of the bytes alone, in 01's order

-- where the versions from `first` to `last` are accepted
module _ (first last : ℕ) (b : List ℕ) where
  -- refusal k at place i is the first that holds
  pub data RowRefusalIn : ℕ → ℕ → Type 0 where
    header : {k i : ℕ} → HeaderRefusalIn first last b k i → RowRefusalIn k i
    claim : HeadedIn first last b → {i : ℕ} → i < rows_in b → RowsFine (body_of b) i → (RowClaims (body_of b) i → ⊥) → RowRefusalIn 14 i
    pair : HeadedIn first last b → {i : ℕ} → i < rows_in b → RowsFine (body_of b) i → RowClaims (body_of b) i → (Rises (body_of b) i → ⊥) → RowRefusalIn 15 i

  -- none of them holds
  pub record BytesFineIn : Type 0 where
    pub header : HeadedIn first last b
    pub rows : RowsFine (body_of b) (rows_in b)

  abbrev Told : Type 0
  Told = BytesFineIn ⊎ ((k : ℕ) × (i : ℕ) × RowRefusalIn k i)

  -- every sheet is in one row of the table, or in none
  pub every-count : BytesFineIn ⊎ ((k : ℕ) × (i : ℕ) × RowRefusalIn k i)
  every-count = begins (every-header first last b) where
    rows : HeadedIn first last b → RowsFine (body_of b) (rows_in b) ⊎ BadRow (body_of b) (rows_in b) → Told
    rows h (inl f) = inl (record { header = h; rows = f })
    rows h (inr (i, l, f, inl c)) = inr (14, i, claim h l f c)
    rows h (inr (i, l, f, inr (c, r))) = inr (15, i, pair h l f c r)

    begins : HeadedIn first last b ⊎ ((k : ℕ) × (i : ℕ) × HeaderRefusalIn first last b k i) → Told
    begins (inl h) = rows h (rows-known _ _ _ (rows_in b))
    begins (inr (k, i, h)) = inr (k, i, header h)

  -- the check that refuses it: the header's, or behind it the rows'
  abbrev pub RefusedBy : Refusal → Type 0
  RefusedBy q = (accept_check first last b ≡ Err q) ⊎ (HeadedIn first last b × (rows_from (body_of b) (columns-in b) (rows_in b) 0 ≡ Err q))

  pub row_told : {k i : ℕ} → RowRefusalIn k i → (q : Refusal) × RefusedBy q × (number_of q ≡ k) × (place_of q ≡ i)
  row_told (header h) =
      let t = header-told first last b h in
      (t.0, inl t.1, t.2, t.3)
  row_told (claim h {i = i} l f n) = (Claim i, inr (h, bad-claim _ _ _ _ i l f n), refl, refl)
  row_told (pair h {i = i} l f c n) = (Pair i, inr (h, bad-pair _ _ _ _ i l f c n), refl, refl)

-- for a reader
abbrev pub RowRefusal : List ℕ → ℕ → ℕ → Type 0
RowRefusal b k i = RowRefusalIn 1 2 b k i

abbrev pub BytesFine : List ℕ → Type 0
BytesFine b = BytesFineIn 1 2 b

module _ (b : List ℕ) (R C : ℕ) where
  count-told : (q : Refusal) → RefusedBy 1 2 b q → rows_read b R C ≡ Err q
  count-told q (inl e) = sym (count-refused b R C (header_check b) refl e)
  count-told q (inr (h, e)) = sym (count-read b R C (header_check b) refl _ (good-header 1 2 b h) (bad-count (body_of b) R C _ _ refl refl _ refl e))

  module _ {r : Result Header Refusal} (c : r ≡ rows_read b R C) where
    -- 01's number and place are those of the first refusal that holds
    pub first-row-refusal : {k i : ℕ} → RowRefusal b k i → said r ≡ refused k i
    first-row-refusal h =
        let t = row_told 1 2 b h in
        ap said (c ∙ count-told t.0 t.1) ∙ rw (t.2, t.3)

    -- where none holds, the header has the n that remains
    pub counts-remaining : BytesFine b → r ≡ Ok (header_of (body_of b) (rows_left b) R C)
    counts-remaining w =
        let l = good-rows _ _ _ _ w.rows in
        c ∙ sym (count-read b R C (header_check b) refl _ (good-header 1 2 b w.header) (counts_all (body_of b) R C _ _ refl refl _ refl _ _ l refl refl))

module _ (b : List ℕ) (R C : ℕ) (x y : List Float) where
  pub outcomes-coincide : {r q : Result Header Refusal} {x' x'' y' y'' : List Float} → Reads b R C x y r x' y' → Reads b R C x y q x'' y'' → (r ≡ q) × (x' ≡ x'') × (y' ≡ y'')
  outcomes-coincide c d =
      let e = c ∙ sym d in
      (ap answer_in e, ap matrix_in e, ap targets_in e)

  pub refused-writes-nothing : {q : Refusal} {x' y' : List Float} → Reads b R C x y (Err q) x' y' → (x' ≡ x) × (y' ≡ y)
  unfolding sheet_of
  refused-writes-nothing c = spared (rows_read b R C) (body_of b) x y _ _ _ c

  -- ---- all refusals, in 01's order

  -- refusal k at place i is the first that holds; 1 and 2 are by what remains
  pub data FirstRefusal : ℕ → ℕ → Type 0 where
    bytes : {k i : ℕ} → RowRefusal b k i → FirstRefusal k i
    size : BytesFine b → (InSize (rows_left b) (columns-in b) → ⊥) → FirstRefusal 1 0
    lengths : BytesFine b → InSize (rows_left b) (columns-in b) → (Lengths (rows_left b) (columns-in b) (length x) (length y) → ⊥) → FirstRefusal 2 0

  -- none of them holds
  pub record WellFormed : Type 0 where
    pub bytes : BytesFine b
    pub size : InSize (rows_left b) (columns-in b)
    pub lengths : Lengths (rows_left b) (columns-in b) (length x) (length y)

  abbrev Placed : Type 0
  Placed = WellFormed ⊎ ((k : ℕ) × (i : ℕ) × FirstRefusal k i)

  -- every sheet is in one row of the table, or in none
  pub every-sheet : WellFormed ⊎ ((k : ℕ) × (i : ℕ) × FirstRefusal k i)
  every-sheet = begins (every-count 1 2 b) where
    longs : BytesFine b → InSize (rows_left b) (columns-in b) → Dec (Lengths (rows_left b) (columns-in b) (length x) (length y)) → Placed
    longs h z (yes l) = inl (record { bytes = h; size = z; lengths = l })
    longs h z (no l) = inr (2, 0, lengths h z l)

    sizes : BytesFine b → Dec (InSize (rows_left b) (columns-in b)) → Placed
    sizes h (yes z) = longs h z (lengths-known (rows_left b) (columns-in b) (length x) (length y))
    sizes h (no z) = inr (1, 0, size h z)

    begins : Told 1 2 b → Placed
    begins (inl h) = sizes h (size-known (rows_left b) (columns-in b))
    begins (inr (k, i, h)) = inr (k, i, bytes h)

  -- past the bytes' own refusals
  body-told : BytesFine b → {o : Outcome} → o ≡ body_read (body_of b) (header_of (body_of b) (rows_left b) R C) x y → sheet_of b R C x y ≡ o
  body-told w e = sym (sheet-read b R C (rows_read b R C) refl x y (counts-remaining b R C refl w) e)

  room-told : (q : Refusal) → BytesFine b → room_check (rows_left b) (columns-in b) (length x) (length y) ≡ Err q
      → sheet_of b R C x y ≡ outcome (Err q) x y
  unfolding header_of
  room-told q w e = body-told w (bad-room (body_of b) (header_of (body_of b) (rows_left b) R C) x y _ refl e)

  told : {k i : ℕ} → FirstRefusal k i → (q : Refusal) × (sheet_of b R C x y ≡ outcome (Err q) x y) × (said (Err q) ≡ refused k i)
  told (bytes h) =
      let t = row_told 1 2 b h in
      (t.0, sym (sheet-refused b R C (rows_read b R C) refl x y (count-told b R C t.0 t.1)), rw (t.2, t.3))
  told (size h n) = (Size, room-told Size h (bad-size _ _ _ _ n), refl)
  told (lengths h z n) = (Length, room-told Length h (bad-length _ _ _ _ z n), refl)

  module _ {r : Result Header Refusal} {x' y' : List Float} (c : Reads b R C x y r x' y') where
    -- 01's number and place are those of the first refusal that holds, and nothing is written
    pub first-refusal : {k i : ℕ} → FirstRefusal k i → (said r ≡ refused k i) × (x' ≡ x) × (y' ≡ y)
    first-refusal h =
        let t = told h in
        let e = c ∙ t.1 in
        (ap (λ (o : Outcome). said (answer_in o)) e ∙ t.2, ap matrix_in e, ap targets_in e)

    -- where none holds the sheet is read, to these numbers
    pub well-formed-read : WellFormed
        → (r ≡ Ok (header_of (body_of b) (rows_left b) R C))
        × (x' ≡ matrix_of (body_of b) (rows_in b) (columns-in b))
        × (y' ≡ targets_of (body_of b) (rows_in b) (columns-in b))
    unfolding header_of
    well-formed-read w =
        let h = header_of (body_of b) (rows_left b) R C in
        let m = good-room _ _ _ _ w.size w.lengths in
        let e = c ∙ body-told w.bytes (reads_all (body_of b) h x y _ refl _ _ _ m refl refl refl refl) in
        (ap answer_in e, ap matrix_in e, ap targets_in e)

  -- ---- what a count says is what the sheet asks for

  -- its header is the sheet's; with its n and p in range, and so many elements lent, nothing refuses the sheet
  pub counted-lends : {h : Header} → Ok h ≡ rows_read b R C → InSize h.n h.p → length x ≡ h.n * h.p → length y ≡ h.n
      → (h ≡ header_of (body_of b) (rows_left b) R C) × WellFormed
  unfolding header_of
  counted-lends {h} e z lx ly = go (every-count 1 2 b) where
    go : Told 1 2 b → (h ≡ header_of (body_of b) (rows_left b) R C) × WellFormed
    go (inl w) =
        let c = e ∙ counts-remaining b R C refl w in
        let q : h ≡ header_of (body_of b) (rows_left b) R C = cc in
        let en : h.n ≡ rows_left b = ap (λ (g : Header). g.n) q in
        let ep : h.p ≡ columns-in b = ap (λ (g : Header). g.p) q in
        (q, record { bytes = w; size = rw (en, ep) at z; lengths = record { matrix = rw (en, ep) at lx; targets = rw en at ly } })
    go (inr (k, i, w)) =
        let c = e ∙ count-told b R C _ (row_told 1 2 b w).1 in
        let f : ◌≡◌ {A = ℕ} 0 1 = cc in
        absurd (omega arith)
