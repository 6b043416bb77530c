-- Two sheets that agree in all but the features of cancelled rows have one text; so have a sheet of at most 256 rows and the one without those of them that are
-- cancelled. Assumes nothing.
use Rattle.sheet_header.specs.declared.Header.{Header}
use Rattle.refusal.specs.declared.Refusal.{Refusal}
use Rattle.std.specs.Prelude.{Err, Ok, Result}
use mathlib.Core.Path.{◌≡◌, refl, sym, ◌∙◌}
use mathlib.Core.List.{List}
use Prim.Native.Nat.{ℕ, ◌≤◌}
use native.Mathlib.Omega.{arith}
use borrow.Author.Tests.{le-leb}
use Rattle.sheet_front.specs.Front.{body_of}
use Rattle.sheet_header.specs.Header.{header_read}
use Rattle.sheet.proofs.Remaining.{place-most}
use Rattle.sheet.proofs.Laws.{rows_in, columns-in, BytesFine}
use Rattle.sheet.proofs.Cancelled.{Dropped, columns, dropped-count, as-if-dropped}
use Rattle.sheet.proofs.Cancelled.{Alike, same-header-read, same_count, cancelled-ignored}
use Rattle.sheet_fit.specs.SheetFit.{headed_text, sheet_text}
use Rattle.sheet_fit.proofs.Alike.{sized-text, same-sized}

module _ (b b' : List ℕ) (a : Alike b b') where
  headed : (r : Result Header Refusal) → headed_text b r ≡ headed_text b' r
  headed (Err r) = refl
  headed (Ok h) = same-sized b b' (same_count b b' a 32 8) (cancelled-ignored b b' a 32 8) h.n h.n h.p refl

  pub cancelled-unread : sheet_text b ≡ sheet_text b'
  unfolding sheet_text
  cancelled-unread = rw (a.long, same-header-read b b' a 32 8, headed (header_read b' 32 8))

module _ (b b₀ : List ℕ) (a : Dropped b b₀) (w : BytesFine b) (w₀ : BytesFine b₀) where
  fewer : rows_in b₀ ≤ rows_in b
  fewer = omega (arith, a.rows, place-most (body_of b) (columns-in b) (rows_in b))

  pub dropped-text : rows_in b ≤ 256 → sheet_text b ≡ sheet_text b₀
  dropped-text n =
      let t = le-leb (rows_in b) 256 n ∙ sym (le-leb (rows_in b₀) 256 (omega (arith, fewer))) in
      rw (sized-text b w.header, sized-text b₀ w₀.header, ← columns b b₀ a)
      (same-sized b b₀ (dropped-count b b₀ a w w₀ 32 8) (as-if-dropped b b₀ a w w₀ 32 8) (rows_in b) (rows_in b₀) (columns-in b) t)
