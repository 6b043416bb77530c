-- What is written as version 1 and moved up is what is written as version 2, where a row is left; where none is, the move is 1. Assumes nothing.
use Rattle.std.specs.Prelude.{Ok, Err}
use mathlib.Core.Path.{◌≡◌, ap, ◌∙◌}
use mathlib.Core.List.{List}
use Prim.Native.Nat.{ℕ, ◌+◌, ◌≤◌}
use native.Mathlib.Omega.{arith}
use borrow.Author.Tests.{le-leb}
use lib.ListN.{length, take}
use Rattle.arrays.specs.Part.{put}
use Rattle.refusal.specs.declared.Refusal.TheVariants.{Size}
use Rattle.refusal.specs.Sizes.{in_size}
use Rattle.refusal.proofs.Asking.{refuted}
use Rattle.refusal.proofs.Sizes.{size-good, size_of}
use Rattle.sheet_front.specs.declared.Version.TheVariants.{One, Two}
use Rattle.sheet_front.specs.Front.{sheet_with}
use Rattle.sheet_front.proofs.Front.{sheet-long, body_back}
use Rattle.sheet_write.specs.Write.{Given, body_bytes, given_check}
use Rattle.sheet_write.proofs.Checks.{given-fine}
use Rattle.sheet_write.proofs.Unique.{Writes, written-front}
use Rattle.sheet_write.proofs.ReadsBack.{kept, p_back, rows-fine, rows-kept, kept-size, written-accepted}
use Rattle.sheet_move.specs.Move.{moved_with, up_of, body_moves, move_check, up_check, Outcome.outcome, up_move}
use Rattle.sheet_move.proofs.Moves.{up_done}

module _ (g : Given) (ok : given_check g ≡ Ok tt) (family : ℕ) where
  abbrev first : List ℕ
  first = sheet_with One (body_bytes g)

  abbrev second : List ℕ
  second = sheet_with (Two family) (body_bytes g)

  raised : up_of family first ≡ second
  unfolding up_of
  raised = ap (sheet_with (Two family)) (body_back One (body_bytes g))

  moves : 1 ≤ length (kept g) → move_check 1 first ≡ Ok tt
  unfolding move_check body_moves
  moves some =
      let z = size-good (length (kept g)) g.p (kept-size g ok some) in
      rw (written-accepted One g ok, body_back One (body_bytes g), rows-fine g ok, rows-kept g ok, p_back g ok, z)

  moves_not : length (kept g) ≡ 0 → move_check 1 first ≡ Err Size
  unfolding move_check body_moves
  moves_not none =
      let z = refuted (in_size (length (kept g)) g.p) (λ t. omega (arith, none, (size_of (length (kept g)) g.p t).some-rows)) in
      rw (written-accepted One g ok, body_back One (body_bytes g), rows-fine g ok, rows-kept g ok, p_back g ok, z)

-- ---- through the contracts

module _ (g : Given) {k : ℕ} (out : List ℕ) {out' : List ℕ} (c : Writes One g out (Ok k) out') (family : ℕ) (out₂ : List ℕ) where
  -- what is written as version 2 is m bytes of any output that was lent for it
  pub written-moves : 1 ≤ length (kept g) → {m : ℕ} (out₃ : List ℕ) {out₃' : List ℕ} → Writes (Two family) g out₃ (Ok m) out₃' → m ≤ length out₂
      → up_move (take k out') family out₂ ≡ outcome (Ok (moved_with m family)) (put out₂ 0 (take m out₃'))
  written-moves some out₃ d room =
      let w₁ = written-front One g out c in
      let w₂ = written-front (Two family) g out₃ d in
      let ok = given-fine One g (length out) w₁.0 in
      let l₁ = sheet-long One (body_bytes g) in
      let l₂ = sheet-long (Two family) (body_bytes g) in
      rw (w₁.2, w₂.2, w₂.1) (up_done (first g ok family) family out₂ (omega (arith, l₁, l₂, room, w₂.1)) (moves g ok family some) ∙ rw (raised g ok family))

  pub written-none-moves : length (kept g) ≡ 0 → k + 4 ≤ length out₂ → up_move (take k out') family out₂ ≡ outcome (Err Size) out₂
  unfolding up_move up_check
  written-none-moves none room =
      let w = written-front One g out c in
      let ok = given-fine One g (length out) w.0 in
      let e = le-leb (length (sheet_with One (body_bytes g)) + 4) (length out₂) (omega (arith, room, w.1)) in
      rw (w.2, e, moves_not g ok family none)
