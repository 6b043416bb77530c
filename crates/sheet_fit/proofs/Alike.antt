-- Two sheets that the reader's header check accepts and that have one body have one text, although one may be of version 2, and 4 bytes longer.
-- Assumes nothing.
use Rattle.sheet_header.specs.declared.Header.{Header}
use Rattle.refusal.specs.declared.Refusal.{Refusal}
use Rattle.std.specs.Prelude.{Ok, Err, Result}
use mathlib.Core.Path.{◌≡◌, refl, sym, ap, ◌∙◌}
use mathlib.Core.Logic.{◌⊎◌, inl, inr}
use mathlib.Core.List.{List}
use Prim.Native.Nat.{ℕ, ◌≤◌, ◌<◌}
use native.Mathlib.Nat.{mul-le-mul}
use native.Mathlib.Decide.{dec_lt}
use native.Mathlib.Omega.{arith}
use lib.Dec.{leb}
use lib.ListN.{length}
use lib.Ieee.{Float}
use Rattle.refusal.specs.declared.Refusal.TheVariants.{TooLarge}
use Rattle.sheet_front.specs.Front.{version_of, body_of}
use Rattle.sheet_header.specs.Header.{row-bytes, header_of, header_check}
use Rattle.sheet_header.proofs.Checks.{Headed, fixed-most}
use Rattle.sheet_header.proofs.Laws.{HeaderRefusal, header-told, every-header, headed-read}
use Rattle.sheet.specs.Sheet.{rows_read, sheet_of}
use Rattle.sheet.proofs.Laws.{rows_in, columns-in}
use Rattle.sheet_fit.specs.SheetFit.{refusal_text, read_text, lent_text, counted_text, sized_text, sheet_text}
use Rattle.sheet_fit.proofs.Returns.{many-rows, many-features, many-bytes, header-sized}

-- ---- a sheet's text is by n and p: at most 256 rows of at most 16 features have at most 35,882 bytes, in either version

module _ (b : List ℕ) (w : Headed b) where
  few_bytes : rows_in b ≤ 256 → columns-in b ≤ 16 → length b ≤ 35882
  few_bytes n p =
      let f : row-bytes (columns-in b) ≤ 140 = omega arith in
      omega (arith, mul-le-mul n f, w.measured.rest, w.measured.formula, fixed-most (version_of b))

  pub sized-text : sheet_text b ≡ sized_text b (rows_in b) (columns-in b)
  unfolding header_of
  sized-text = bytes (dec_lt 35882 (length b)) where
    columns : 35882 < length b → rows_in b ≤ 256 → Dec (16 < columns-in b) → refusal_text TooLarge ≡ sized_text b (rows_in b) (columns-in b)
    columns l n (yes h) = many-features b (rows_in b) (columns-in b) n h
    columns l n (no h) = absurd (omega (arith, l, few_bytes n (omega (arith, h))))

    rows : 35882 < length b → Dec (256 < rows_in b) → refusal_text TooLarge ≡ sized_text b (rows_in b) (columns-in b)
    rows l (yes n) = many-rows b (rows_in b) (columns-in b) n
    rows l (no n) = columns l (omega (arith, n)) (dec_lt 16 (columns-in b))

    bytes : Dec (35882 < length b) → sheet_text b ≡ sized_text b (rows_in b) (columns-in b)
    bytes (yes l) = sym (many-bytes b l) ∙ rows l (dec_lt 256 (rows_in b))
    bytes (no l) = sym (header-sized b (omega (arith, l)) refl (headed-read b 32 8 refl w))

-- ---- two sheets with one count and one outcome

pub same-sized : (b b' : List ℕ) → rows_read b 32 8 ≡ rows_read b' 32 8 → ((x y : List Float) → sheet_of b 32 8 x y ≡ sheet_of b' 32 8 x y)
    → (n n' p : ℕ) → leb n 256 ≡ leb n' 256 → sized_text b n p ≡ sized_text b' n' p
unfolding sized_text lent_text
same-sized b b' e f n n' p t = rw (t, e, counted (rows_read b' 32 8)) where
  counted : (r : Result Header Refusal) → counted_text b r ≡ counted_text b' r
  counted (Err r) = refl
  counted (Ok h) = ap read_text (f _ _)

-- ---- two with one body

headed : (b : List ℕ) → header_check b ≡ Ok tt → Headed b
headed b e = go (every-header 1 2 b) where
  go : Headed b ⊎ ((k : ℕ) × (i : ℕ) × HeaderRefusal b k i) → Headed b
  go (inl h) = h
  go (inr (k, i, h)) =
      let c = sym e ∙ (header-told 1 2 b h).1 in
      let z : ◌≡◌ {A = ℕ} 0 1 = cc in
      absurd (omega arith)

module _ (b b' : List ℕ) (h : header_check b ≡ Ok tt) (h' : header_check b' ≡ Ok tt) (e : body_of b ≡ body_of b') where
  one-count : rows_read b 32 8 ≡ rows_read b' 32 8
  unfolding rows_read
  one-count = rw (h, h', e)

  pub same-body-text : sheet_text b ≡ sheet_text b'
  unfolding sheet_of
  same-body-text =
      rw (sized-text b (headed b h), sized-text b' (headed b' h'), e)
      (same-sized b b' one-count (λ x y. rw (one-count, e)) (rows_in b') (rows_in b') (columns-in b') refl)
