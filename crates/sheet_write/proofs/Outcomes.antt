-- The ways out of the call. Assumes nothing.
use Rattle.std.specs.Prelude.{Result, ⊤, Ok}
use mathlib.Core.Path.{◌≡◌}
use mathlib.Core.Bool.{Bool, true}
use mathlib.Core.List.{List}
use Prim.Native.Nat.{ℕ, ◌+◌}
use native.Mathlib.Omega.{arith}
use lib.Dec.{leb}
use lib.ListN.{length}
use Rattle.arrays.specs.Part.{put}
use Rattle.refusal.specs.declared.Refusal.{Refusal}
use Rattle.sheet_front.specs.declared.Version.{Version}
use Rattle.sheet_front.specs.Front.{front_bytes, front_of, sheet_with}
use Rattle.sheet_front.proofs.Front.{front_long, sheet-long}
use Rattle.sheet_header.specs.Header.{row_at}
use Rattle.sheet_write.specs.Write.{Given, head_bytes, rows_bytes, body_bytes, given_check, write_check, Outcome.outcome, written_of}
use Rattle.sheet_write.proofs.Joined.{put_then}
use Rattle.sheet_write.proofs.Lengths.{head-long, body-long}

module _ (v : Version) (g : Given) where
  -- front, head and rows, one right behind another
  sheet-put : (out : List ℕ) {o₁ o₂ o₃ : List ℕ} (at : ℕ) → at ≡ front_bytes v → o₁ ≡ put out 0 (front_of v (length (body_bytes g)))
      → o₂ ≡ put o₁ at (head_bytes g.n g.p g.settings) → o₃ ≡ put o₂ (at + 33) (rows_bytes g.p g.sources g.targets g.x g.y g.n)
      → o₃ ≡ put out 0 (sheet_with v (body_bytes g))
  unfolding body_bytes
  sheet-put out at ea e₁ e₂ e₃ =
      put_then out 0 _ _ e₁ (omega (arith, front_long v (length (body_bytes g))))
      (put_then _ at _ _ e₂ (omega (arith, head-long g.n g.p g.settings)) e₃)

  module _ (out : List ℕ) (at : ℕ) (ea : at ≡ front_bytes v) (r : Bool) (er : r ≡ leb (at + row_at g.p g.n) (length out)) where
    module _ (h : r ≡ true) (k : Result ⊤ Refusal) (ek : k ≡ given_check g) where
      laid : {m : ℕ} {o : List ℕ} → k ≡ Ok tt → m ≡ length (sheet_with v (body_bytes g)) → o ≡ put out 0 (sheet_with v (body_bytes g))
          → outcome (Ok m) o ≡ written_of v g out
      unfolding written_of write_check
      laid f em eo = rw (em, eo, ← ea, ← er, h, ← ek, f)

      pub all-written : (m : ℕ) {o₁ o₂ o₃ : List ℕ} → k ≡ Ok tt → m ≡ row_at g.p g.n → o₁ ≡ put out 0 (front_of v m)
          → o₂ ≡ put o₁ at (head_bytes g.n g.p g.settings) → o₃ ≡ put o₂ (at + 33) (rows_bytes g.p g.sources g.targets g.x g.y g.n)
          → outcome (Ok (at + m)) o₃ ≡ written_of v g out
      all-written m f em e₁ e₂ e₃ =
          let l = body-long g in
          laid f (omega (arith, sheet-long v (body_bytes g))) (sheet-put out at ea (rw l (rw em at e₁)) e₂ e₃)
