-- The ways out of the two calls. Assumes nothing.
use Rattle.std.specs.Prelude.{Result, ⊤, Ok, Err}
use mathlib.Core.Path.{◌≡◌, sym, ◌∙◌}
use mathlib.Core.List.{List}
use Prim.Native.Nat.{ℕ, ◌+◌, ◌-◌}
use native.Mathlib.Omega.{arith}
use lib.ListN.{length}
use Rattle.arrays.specs.Part.{put}
use Rattle.refusal.specs.declared.Refusal.{Refusal}
use Rattle.sheet_front.specs.declared.Version.TheVariants.{One, Two}
use Rattle.sheet_front.specs.Front.{family_of, body_of, sheet_with}
use Rattle.sheet_front.proofs.Front.{sheet-long}
use Rattle.sheet_header.proofs.Passed.{lent-from, body-lent}
use Rattle.sheet_move.specs.Move.{moved_with, up_of, down_of, up_check, down_check, Outcome.outcome, up_move, down_move}
use Rattle.sheet_move.proofs.Passed.{Movable, movable, body-from, sheet-length, up-passed, down-passed}

-- ---- the bytes, and the part that is lent

module _ (b : List ℕ) (m : Movable 1 b) (family : ℕ) where
  pub up-length : length (up_of family b) ≡ length b + 4
  unfolding up_of
  up-length = omega (arith, sheet-long (Two family) (body_of b), sheet-length 1 b m)

  up-lent : sheet_with (Two family) (lent-from b 5) ≡ up_of family b
  unfolding up_of
  up-lent = rw (body-lent b 5 (body-from 1 b m))

module _ (b : List ℕ) (m : Movable 2 b) where
  pub down-length : length (down_of b) ≡ length b - 4
  unfolding down_of
  down-length = omega (arith, sheet-long One (body_of b), sheet-length 2 b m)

  down-lent : sheet_with One (lent-from b 9) ≡ down_of b
  unfolding down_of
  down-lent = rw (body-lent b 9 (body-from 2 b m))

-- ---- the calls

module _ (b : List ℕ) (family : ℕ) (out : List ℕ) (k : Result ⊤ Refusal) (e : k ≡ up_check b (length out)) where
  pub up-refused : {q : Refusal} → k ≡ Err q → outcome (Err q) out ≡ up_move b family out
  unfolding up_move
  up-refused f = rw (← e, f)

  pub up-moved : {out' : List ℕ} → k ≡ Ok tt → out' ≡ put out 0 (sheet_with (Two family) (lent-from b 5))
      → outcome (Ok (moved_with (length b + 4) family)) out' ≡ up_move b family out
  unfolding up_move
  up-moved f w =
      let m = movable 1 b (up-passed b (length out) (sym e ∙ f)).1 in
      rw (← e, f, up-length b m family, w, up-lent b m family)

module _ (b out : List ℕ) (k : Result ⊤ Refusal) (e : k ≡ down_check b (length out)) where
  pub down-refused : {q : Refusal} → k ≡ Err q → outcome (Err q) out ≡ down_move b out
  unfolding down_move
  down-refused f = rw (← e, f)

  pub down-moved : {family : ℕ} {out' : List ℕ} → k ≡ Ok tt → family ≡ family_of b → out' ≡ put out 0 (sheet_with One (lent-from b 9))
      → outcome (Ok (moved_with (length b - 4) family)) out' ≡ down_move b out
  unfolding down_move
  down-moved f g w =
      let m = movable 2 b (down-passed b (length out) (sym e ∙ f)).1 in
      rw (← e, f, down-length b m, g, w, down-lent b m)
