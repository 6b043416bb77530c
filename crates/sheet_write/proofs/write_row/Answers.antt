-- `sheet_write::write_row` meets its contract: each write goes on where the one before it ended. Assumes nothing.
use mathlib.Core.Path.{◌≡◌}
use mathlib.Core.List.{List}
use Prim.Native.Nat.{ℕ, ◌+◌, ◌*◌}
use native.Mathlib.Omega.{arith}
use lib.Ieee.{Float}
use Rattle.arrays.specs.Part.{put}
use Rattle.arrays.specs.Sums.{◌!◌}
use Rattle.big_endian.specs.Bytes.{bytes_of, float_bytes}
use Rattle.sheet_write.specs.Write.{joined, row_bytes}
use Rattle.sheet_write.proofs.Joined.{put_then, bytes-then}
use Rattle.sheet_write.proofs.Lengths.{features-long}
use Rattle.sheet_write.proofs.write_row.Goals as goal

row_written : (p source target : ℕ) (x : List Float) (from : ℕ) (score : Float) (s : List ℕ) (at : ℕ) {s₁ s₂ s₃ s₄ : List ℕ} → s₁ ≡ put s at (bytes_of 2 source)
    → s₂ ≡ put s₁ (at + 2) (bytes_of 2 target) → s₃ ≡ put s₂ (at + 4) (joined (λ j. float_bytes (x ! (from + j))) p)
    → s₄ ≡ put s₃ (at + 4 + 8 * p) (float_bytes score) → s₄ ≡ put s at (row_bytes p source target x from score)
unfolding row_bytes
row_written p source target x from score s at e₁ e₂ e₃ e₄ =
    bytes-then s at 2 source _ e₁ (omega arith)
    (bytes-then _ (at + 2) 2 target _ e₂ (omega arith)
    (put_then _ (at + 4) _ (float_bytes score) e₃ (omega (arith, features-long x from p)) e₄))

pub write_features-requires : goal.write_features-requires
write_features-requires c = record { p_in_bounds = omega arith; p_in_bounds_2 = omega arith }

pub returns : goal.returns
returns c = row_written _ _ _ _ _ _ _ _ c.write_number.ensures c.write_number-2.ensures c.write_features.ensures c.write_float.ensures
