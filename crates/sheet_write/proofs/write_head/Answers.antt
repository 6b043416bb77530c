-- `sheet_write::write_head` meets its contract: each write goes on where the one before it ended. Assumes nothing.
use mathlib.Core.Path.{◌≡◌, refl}
use mathlib.Core.List.{List, [], ◌∷◌}
use Prim.Native.Nat.{ℕ, ◌+◌}
use native.Mathlib.Omega.{arith}
use lib.ListN.{set, length-set}
use Rattle.arrays.specs.Part.{put}
use Rattle.settings.specs.declared.Settings.{Settings}
use Rattle.big_endian.specs.Bytes.{bytes_of, float_bytes}
use Rattle.sheet_header.specs.Flags.{flags_for}
use Rattle.sheet_write.specs.Write.{head_bytes}
use Rattle.sheet_write.proofs.Joined.{bytes-then}
use Rattle.sheet_write.proofs.write_head.Goals as goal

one_byte : (s : List ℕ) (at : ℕ) {f v : ℕ} → f ≡ v → set s at f ≡ put s at (v ∷ [])
unfolding put
one_byte s at e = rw e

head-written : (n p : ℕ) (st : Settings) (s : List ℕ) (at : ℕ) {s₁ s₂ s₃ s₄ s₅ s₆ : List ℕ} {f : ℕ} → s₁ ≡ put s at (bytes_of 2 n)
    → s₂ ≡ put s₁ (at + 2) (bytes_of 2 p) → s₃ ≡ put s₂ (at + 4) (float_bytes st.alpha) → s₄ ≡ put s₃ (at + 12) (float_bytes st.l1_ratio)
    → s₅ ≡ put s₄ (at + 20) (float_bytes st.tol) → s₆ ≡ put s₅ (at + 28) (bytes_of 4 st.max_iter) → f ≡ flags_for st
    → set s₆ (at + 32) f ≡ put s at (head_bytes n p st)
unfolding head_bytes
head-written n p st s at e₁ e₂ e₃ e₄ e₅ e₆ e₇ =
    bytes-then s at 2 n _ e₁ refl
    (bytes-then _ (at + 2) 2 p _ e₂ (omega arith)
    (bytes-then _ (at + 4) 8 _ _ e₃ (omega arith)
    (bytes-then _ (at + 12) 8 _ _ e₄ (omega arith)
    (bytes-then _ (at + 20) 8 _ _ e₅ (omega arith)
    (bytes-then _ (at + 28) 4 st.max_iter _ e₆ (omega arith) (one_byte _ (at + 32) e₇))))))

pub shape_of-out : goal.shape_of-out
shape_of-out c = simp length-set (omega arith)

pub returns : goal.returns
returns c =
    head-written _ _ _ _ _ c.write_number.ensures c.write_number-2.ensures c.write_float.ensures c.write_float-2.ensures
    c.write_float-3.ensures c.write_number-3.ensures c.flags_for.ensures
