-- What the contract of `write_sheet` says: which refusal for which input, and that an input with no fault is written. Assumes nothing.
use Rattle.std.specs.Prelude.{Ok, Err, Result, ℕ}
use mathlib.Core.Path.{◌≡◌, refl, ap, ◌∙◌}
use mathlib.Core.Logic.{◌⊎◌, inl, inr}
use mathlib.Core.List.{List}
use Prim.Native.Nat.{ℕ, ◌≤◌, ◌<◌}
use native.Mathlib.Decide.{dec_lt}
use native.Mathlib.Omega.{arith}
use lib.Dec.{T}
use lib.ListN.{length, get_or}
use lib.Ieee.{binary64, to_bits, fits}
use borrow.Author.Tests.{le-leb, lt-leb}
use Rattle.arrays.specs.Part.{put}
use Rattle.arrays.specs.Sums.{◌!◌}
use Rattle.refusal.specs.declared.Refusal.{Refusal}
use Rattle.refusal.specs.declared.Refusal.TheVariants.{Size, Length, Setting, Claim, Pair}
use Rattle.refusal.specs.Sizes.{in_size}
use Rattle.refusal.proofs.Asking.{refuted}
use Rattle.refusal.proofs.Sizes.{InSize, size-good, size_of, size-known}
use Rattle.settings.specs.Settings.{allowed_of, Allowed}
use Rattle.sheet_front.specs.declared.Version.{Version}
use Rattle.sheet_front.specs.Front.{sheet_with}
use Rattle.sheet.proofs.Checks.{ClaimsAt, RisesAt, FineBefore, BadAmong, rows-known, bad-claim, bad-pair, good-rows}
use Rattle.sheet_write.specs.Write.{Given, body_bytes, lengths_fine, claims_of, given_check, sheet_length, write_check, Said.refused, said, written_of}
use Rattle.sheet_write.proofs.Checks.{Measured, measured, measured-good, measured-known, allowed_of_lem, allowed-good, allowed-known}
use Rattle.sheet_write.proofs.Unique.{Writes, outcomes-coincide}

-- ---- the rows that are given

abbrev pub source_in : Given → ℕ → ℕ
source_in g i = get_or g.sources i 0

abbrev pub target_in : Given → ℕ → ℕ
target_in g i = get_or g.targets i 0

abbrev pub score_in : Given → ℕ → ℕ
score_in g i = to_bits binary64 (g.y ! i)

abbrev pub GivenClaims : Given → ℕ → Type 0
GivenClaims g i = ClaimsAt (source_in g) (target_in g) (score_in g) i

abbrev pub GivenRises : Given → ℕ → Type 0
GivenRises g i = RisesAt (source_in g) (target_in g) i

abbrev pub GivenFine : Given → ℕ → Type 0
GivenFine g k = FineBefore (source_in g) (target_in g) (score_in g) k

-- ---- the refusals, in 02's order

module _ (v : Version) (g : Given) (out : List ℕ) where
  -- the output has the bytes
  abbrev pub Room : Type 0
  Room = sheet_length v g.n g.p ≤ length out

  -- none of 1, 2 and 3
  pub record Entered : Type 0 where
    pub room : Room
    pub size : InSize g.n g.p
    pub lengths : Measured g
    pub settings : Allowed g.settings

  -- refusal k at place i is the first that holds; 1 is by all rows, cancelled ones too
  pub data FirstRefusal : ℕ → ℕ → Type 0 where
    room : length out < sheet_length v g.n g.p → FirstRefusal 2 0
    size : Room → (InSize g.n g.p → ⊥) → FirstRefusal 1 0
    lengths : Room → InSize g.n g.p → (Measured g → ⊥) → FirstRefusal 2 0
    setting : Room → InSize g.n g.p → Measured g → (Allowed g.settings → ⊥) → FirstRefusal 3 0
    claim : Entered → {i : ℕ} → i < g.n → GivenFine g i → (GivenClaims g i → ⊥) → FirstRefusal 14 i
    pair : Entered → {i : ℕ} → i < g.n → GivenFine g i → GivenClaims g i → (GivenRises g i → ⊥) → FirstRefusal 15 i

  -- none of them holds
  pub record Writable : Type 0 where
    pub entered : Entered
    pub rows : GivenFine g g.n

  abbrev Placed : Type 0
  Placed = Writable ⊎ ((k : ℕ) × (i : ℕ) × FirstRefusal k i)

  -- past the room, the check is that of what is given
  room-check : Room → write_check v g (length out) ≡ given_check g
  unfolding write_check
  room-check r = rw (le-leb (sheet_length v g.n g.p) (length out) r)

  refuses : (q : Refusal) → write_check v g (length out) ≡ Err q → Writes v g out (Err q) out
  unfolding written_of
  refuses q e = rw e

  writes : write_check v g (length out) ≡ Ok tt → Writes v g out (Ok (length (sheet_with v (body_bytes g)))) (put out 0 (sheet_with v (body_bytes g)))
  unfolding written_of
  writes e = rw e

  -- where tol is a value of binary64. Every f64 is one; a `Float` of the logic may be any number.
  module _ (f : T (fits binary64 g.settings.tol)) where
    -- every input is in one row of the table, or in none
    pub every-input : Writable ⊎ ((k : ℕ) × (i : ℕ) × FirstRefusal k i)
    every-input = begins (dec_lt (length out) (sheet_length v g.n g.p)) where
      rows : Entered → GivenFine g g.n ⊎ BadAmong (source_in g) (target_in g) (score_in g) g.n → Placed
      rows h (inl w) = inl (record { entered = h; rows = w })
      rows h (inr (i, l, w, inl c)) = inr (14, i, claim h l w c)
      rows h (inr (i, l, w, inr (c, r))) = inr (15, i, pair h l w c r)

      settles : Room → InSize g.n g.p → Measured g → Dec (Allowed g.settings) → Placed
      settles r z m (yes a) = rows (record { room = r; size = z; lengths = m; settings = a }) (rows-known (source_in g) (target_in g) (score_in g) g.n)
      settles r z m (no a) = inr (3, 0, setting r z m a)

      measures : Room → InSize g.n g.p → Dec (Measured g) → Placed
      measures r z (yes m) = settles r z m (allowed-known g.settings f)
      measures r z (no m) = inr (2, 0, lengths r z m)

      sizes : Room → Dec (InSize g.n g.p) → Placed
      sizes r (yes z) = measures r z (measured-known g)
      sizes r (no z) = inr (1, 0, size r z)

      begins : Dec (length out < sheet_length v g.n g.p) → Placed
      begins (yes h) = inr (2, 0, room h)
      begins (no h) = sizes (omega (arith, h)) (size-known g.n g.p)

    -- past 3, the check is the rows'
    entered-check : Entered → write_check v g (length out) ≡ claims_of g
    unfolding given_check
    entered-check h =
        room-check h.room
        ∙ rw (size-good g.n g.p h.size, measured-good g h.lengths, allowed-good g.settings f h.settings)

    told : {k i : ℕ} → FirstRefusal k i → (q : Refusal) × (write_check v g (length out) ≡ Err q) × (said (Err q) ≡ refused k i)
    unfolding write_check given_check
    told (room h) = (Length, rw (lt-leb (sheet_length v g.n g.p) (length out) h), refl)
    told (size r h) = (Size, room-check r ∙ rw (refuted (in_size g.n g.p) (λ t. h (size_of g.n g.p t))), refl)
    told (lengths r z h) = (Length, room-check r ∙ rw (size-good g.n g.p z, refuted (lengths_fine g) (λ t. h (measured g t))), refl)
    told (setting r z l h) =
        let n = refuted (allowed_of g.settings) (λ t. h (allowed_of_lem g.settings t)) in
        (Setting, room-check r ∙ rw (size-good g.n g.p z, measured-good g l, n), refl)
    told (claim h {i = i} l w n) = (Claim i, entered-check h ∙ bad-claim _ _ _ _ i l w n, refl)
    told (pair h {i = i} l w c n) = (Pair i, entered-check h ∙ bad-pair _ _ _ _ i l w c n, refl)

    module _ {r : Result ℕ Refusal} {out' : List ℕ} (c : Writes v g out r out') where
      -- 01's number and place are those of the first refusal that holds, and nothing is written
      pub first-refusal : {k i : ℕ} → FirstRefusal k i → (said r ≡ refused k i) × (out' ≡ out)
      first-refusal h =
          let t = told h in
          let e = outcomes-coincide v g out c (refuses t.0 t.1) in
          (ap said e.0 ∙ t.2, e.1)

      -- where none holds the sheet is written
      pub written-otherwise : Writable → (r ≡ Ok (length (sheet_with v (body_bytes g)))) × (out' ≡ put out 0 (sheet_with v (body_bytes g)))
      written-otherwise w = outcomes-coincide v g out c (writes (entered-check w.entered ∙ good-rows _ _ _ g.n w.rows))
