-- What the contracts of `move_up` and `move_down` say: which refusal for which sheet, and that a sheet with no fault is moved. Assumes nothing.
use Rattle.sheet_move.specs.declared.Moved.{Moved}
use Rattle.std.specs.Prelude.{Result, ⊤, Ok, Err}
use mathlib.Core.Path.{◌≡◌, refl, sym, ap, ◌∙◌}
use mathlib.Core.Logic.{◌⊎◌, inl, inr}
use mathlib.Core.List.{List}
use Prim.Native.Nat.{ℕ, ◌+◌, ◌-◌, ◌≤◌, ◌<◌}
use native.Mathlib.Decide.{dec_lt}
use native.Mathlib.Omega.{arith}
use lib.Dec.{leb}
use lib.ListN.{length}
use borrow.Author.Tests.{le-leb, lt-leb}
use Rattle.arrays.specs.Part.{put}
use Rattle.refusal.specs.declared.Refusal.{Refusal}
use Rattle.refusal.specs.declared.Refusal.TheVariants.{Size, Length}
use Rattle.refusal.specs.Refusal.{number_of, place_of}
use Rattle.refusal.specs.Checks.{ask}
use Rattle.refusal.specs.Sizes.{in_size}
use Rattle.refusal.proofs.Asking.{refuted}
use Rattle.refusal.proofs.Sizes.{InSize, size-good, size_of, size-known}
use Rattle.sheet_front.specs.Front.{version_of, family_of}
use Rattle.sheet_header.proofs.Checks.{VersionIn, good-header}
use Rattle.sheet_header.proofs.Laws.{HeaderRefusalIn.version}
use Rattle.sheet.proofs.Checks.{good-rows}
use Rattle.sheet.proofs.Laws.{columns-in, rows_left, RowRefusalIn, RowRefusalIn.header, BytesFineIn, every-count, RefusedBy, row_told}
use Rattle.sheet_move.specs.Move.{moved_with, up_of, down_of, body_moves, move_check, up_check, down_check, Said.refused, said}
use Rattle.sheet_move.proofs.Passed.{movable}
use Rattle.sheet_move.proofs.Outcomes.{up-length, down-length, up-refused, down-refused}
use Rattle.sheet_move.proofs.Moves.{up_done, down-done}
use Rattle.sheet_move.proofs.Unique.{MovesUp, MovesDown, up-outcomes-coincide, down-outcomes-coincide}

-- ---- the refusals, in 02's order: of a sheet of version v that has `need` bytes when it is moved

module _ (v need : ℕ) (b out : List ℕ) where
  -- refusal k at place i is the first that holds; 11 to 15 are the reader's, with v the only version; 1 is by what remains
  pub data FirstRefusal : ℕ → ℕ → Type 0 where
    room : length out < need → FirstRefusal 2 0
    bytes : need ≤ length out → {k i : ℕ} → RowRefusalIn v v b k i → FirstRefusal k i
    size : need ≤ length out → BytesFineIn v v b → (InSize (rows_left b) (columns-in b) → ⊥) → FirstRefusal 1 0

  -- none of them holds
  pub record WellFormed : Type 0 where
    pub room : need ≤ length out
    pub bytes : BytesFineIn v v b
    pub size : InSize (rows_left b) (columns-in b)

  -- each other version is 11
  pub other-version : need ≤ length out → 5 ≤ length b → (version_of b ≡ v → ⊥) → FirstRefusal 11 0
  other-version r s h = bytes r (header (version s (λ (w : VersionIn v v b). h (omega (arith, w.least, w.most)))))

  abbrev Placed : Type 0
  Placed = WellFormed ⊎ ((k : ℕ) × (i : ℕ) × FirstRefusal k i)

  -- every sheet is in one row of the table, or in none
  pub every-move : WellFormed ⊎ ((k : ℕ) × (i : ℕ) × FirstRefusal k i)
  every-move = begins (dec_lt (length out) need) where
    sizes : need ≤ length out → BytesFineIn v v b → Dec (InSize (rows_left b) (columns-in b)) → Placed
    sizes r w (yes z) = inl (record { room = r; bytes = w; size = z })
    sizes r w (no z) = inr (1, 0, size r w z)

    reads : need ≤ length out → BytesFineIn v v b ⊎ ((k : ℕ) × (i : ℕ) × RowRefusalIn v v b k i) → Placed
    reads r (inl w) = sizes r w (size-known (rows_left b) (columns-in b))
    reads r (inr (k, i, h)) = inr (k, i, bytes r h)

    begins : Dec (length out < need) → Placed
    begins (yes h) = inr (2, 0, room h)
    begins (no h) = reads (omega (arith, h)) (every-count v v b)

  -- the check of the sheet
  sheet-told : (q : Refusal) → RefusedBy v v b q → move_check v b ≡ Err q
  unfolding move_check body_moves
  sheet-told q (inl e) = rw e
  sheet-told q (inr (h, e)) = rw (good-header v v b h, e)

  size-told : BytesFineIn v v b → (InSize (rows_left b) (columns-in b) → ⊥) → move_check v b ≡ Err Size
  unfolding move_check body_moves
  size-told w h =
      let n = refuted (in_size (rows_left b) (columns-in b)) (λ t. h (size_of _ _ t)) in
      rw (good-header v v b w.header, good-rows _ _ _ _ w.rows, n)

  moves : WellFormed → move_check v b ≡ Ok tt
  unfolding move_check body_moves
  moves w = rw (good-header v v b w.bytes.header, good-rows _ _ _ _ w.bytes.rows, size-good (rows_left b) (columns-in b) w.size)

  -- with the room
  abbrev check : Result ⊤ Refusal
  check = ask (leb need (length out)) Length (move_check v b)

  told : {k i : ℕ} → FirstRefusal k i → (q : Refusal) × (check ≡ Err q) × (number_of q ≡ k) × (place_of q ≡ i)
  told (room h) = (Length, rw (lt-leb need (length out) h), refl, refl)
  told (bytes r h) =
      let t = row_told v v b h in
      (t.0, rw (le-leb need (length out) r) (sheet-told t.0 t.1), t.2, t.3)
  told (size r w h) = (Size, rw (le-leb need (length out) r) (size-told w h), refl, refl)

-- ---- through the contracts: 01's number and place are those of the first refusal that holds, and nothing is written; where none holds the sheet is moved

module _ (b : List ℕ) (family : ℕ) (out : List ℕ) {r : Result Moved Refusal} {out' : List ℕ} (c : MovesUp b family out r out') where
  pub up-first-refusal : {k i : ℕ} → FirstRefusal 1 (length b + 4) b out k i → (said r ≡ refused k i) × (out' ≡ out)
  unfolding up_check
  up-first-refusal h =
      let t = told 1 (length b + 4) b out h in
      let e = up-outcomes-coincide b family out c (up-refused b family out (up_check b (length out)) refl t.1) in
      (ap said e.0 ∙ rw (t.2, t.3), e.1)

  pub up-otherwise : WellFormed 1 (length b + 4) b out → (r ≡ Ok (moved_with (length b + 4) family)) × (out' ≡ put out 0 (up_of family b))
  up-otherwise w =
      let m = moves 1 (length b + 4) b out w in
      let e = up-outcomes-coincide b family out c (sym (up_done b family out w.room m)) in
      (e.0 ∙ rw (up-length b (movable 1 b m) family), e.1)

module _ (b out : List ℕ) {r : Result Moved Refusal} {out' : List ℕ} (c : MovesDown b out r out') where
  pub down-first-refusal : {k i : ℕ} → FirstRefusal 2 (length b - 4) b out k i → (said r ≡ refused k i) × (out' ≡ out)
  unfolding down_check
  down-first-refusal h =
      let t = told 2 (length b - 4) b out h in
      let e = down-outcomes-coincide b out c (down-refused b out (down_check b (length out)) refl t.1) in
      (ap said e.0 ∙ rw (t.2, t.3), e.1)

  pub down-otherwise : WellFormed 2 (length b - 4) b out → (r ≡ Ok (moved_with (length b - 4) (family_of b))) × (out' ≡ put out 0 (down_of b))
  down-otherwise w =
      let m = moves 2 (length b - 4) b out w in
      let e = down-outcomes-coincide b out c (sym (down-done b out w.room m)) in
      (e.0 ∙ rw (down-length b (movable 2 b m)), e.1)
