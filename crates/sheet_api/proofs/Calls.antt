-- What each call of the reader returns and leaves, from what the calls within it say. Assumes nothing.
use Rattle.refusal.specs.declared.Refusal.{Refusal}
use Rattle.std.specs.Prelude.{Ok, Err, Result}
use mathlib.Core.Path.{◌≡◌, refl}
use mathlib.Core.Bool.{Bool, true, false, ◌&&◌}
use mathlib.Core.List.{List, []}
use Prim.Native.Nat.{ℕ, ◌*◌}
use native.Mathlib.Omega.{arith}
use lib.Dec.{eqb}
use lib.ListN.{length}
use lib.Ieee.{Float}
use borrow.Author.Tests.{eqb-true}
use Rattle.refusal.specs.declared.Refusal.TheVariants.{Size, Length}
use Rattle.refusal.specs.Checks.{ask}
use Rattle.refusal.specs.Sizes.{in_size}
use Rattle.refusal.proofs.Asking.{refuted, both_true}
use Rattle.refusal.proofs.Sizes.{size_of}
use Rattle.sheet_front.specs.Front.{body_of}
use Rattle.sheet_header.specs.declared.Header.{Header}
use Rattle.sheet.specs.Rows.{room_check}
use Rattle.sheet.specs.Sheet.{rows_read, outcome, by_check, body_read, by_count, sheet_of}
use Rattle.sheet_words.specs.Words.{header-words, number_in, header_in, place_words, unread}
use Rattle.sheet_api.specs.Calls.{called, answer_in, read_as, read_sheet_words}

-- a refusal leaves the header's words
refused-keeps : (o : Result Header Refusal) (hw : List ℕ) → header_in (unread o) hw ≡ hw
refused-keeps (Ok h) hw = refl
refused-keeps (Err r) hw = refl

-- ---- a sheet for which nothing is lent

-- there is no room for a row
no_room : (n p : ℕ) → in_size n p ≡ true → eqb 0 (n * p) && eqb 0 n ≡ false
no_room n p h =
    refuted (eqb 0 (n * p) && eqb 0 n) (λ e.
    let (_, z) = both_true (eqb 0 (n * p)) (eqb 0 n) e in
    absurd (omega (arith, (size_of n p h).some-rows, eqb-true 0 n z)))

room_shut : (s : Bool) (l m : Bool) (x y x₁ y₁ : List Float) (h : Header) → (s ≡ true → m ≡ false)
    → unread (answer_in (by_check (ask s Size (ask l Length (Ok tt))) x y (outcome (Ok h) x₁ y₁)))
    ≡ answer_in (by_check (ask s Size (ask m Length (Ok tt))) [] [] (outcome (Ok h) x₁ y₁))
room_shut false l m x y x₁ y₁ h q = refl
room_shut true true m x y x₁ y₁ h q = rw (q refl)
room_shut true false m x y x₁ y₁ h q = rw (q refl)

count-shut : (o : Result Header Refusal) (b : List ℕ) (x y : List Float) → unread (answer_in (by_count o b x y)) ≡ answer_in (by_count o b [] [])
unfolding body_read room_check
count-shut (Err r) b x y = refl
count-shut (Ok h) b x y =
    let n = h.n in
    let p = h.p in
    room_shut (in_size n p) (eqb (length x) (n * p) && eqb (length y) n) (eqb 0 (n * p) && eqb 0 n) x y _ _ h (no_room n p)

-- it is refused with 2 at the latest
shut : (b : List ℕ) (R C : ℕ) (x y : List Float) → unread (answer_in (sheet_of b R C x y)) ≡ answer_in (sheet_of b R C [] [])
unfolding sheet_of
shut b R C x y = count-shut (rows_read b R C) (body_of b) x y

-- ---- header and place

abbrev pub Due : ℕ → ℕ → Bool
Due h p = eqb h header-words && eqb p 1

-- ---- the whole sheet

module _ (b : List ℕ) (R C : ℕ) (x y : List Float) (hw pw : List ℕ) where
  pub sheet-not-due : {k : ℕ} {pw' : List ℕ} → Due (length hw) (length pw) ≡ false → k ≡ number_in (answer_in (sheet_of b R C [] []))
      → pw' ≡ place_words (answer_in (sheet_of b R C [] [])) pw → called k hw pw' x y ≡ read_sheet_words b R C x y hw pw
  unfolding read_sheet_words read_as
  sheet-not-due h ek ep =
      rw (h, ek, ep, ← shut b R C x y, refused-keeps (answer_in (sheet_of b R C x y)) hw)
