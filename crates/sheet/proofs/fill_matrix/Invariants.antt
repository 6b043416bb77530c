-- `sheet::fill_matrix` meets its contract. The invariant: k of the first i rows remain, and they are the first k of the matrix. The measure: n - i. Assumes nothing.
use mathlib.Core.Path.{◌≡◌}
use mathlib.Core.List.{List}
use Prim.Native.Nat.{ℕ, ◌-◌, ◌≤◌}
use lib.ListN.{length, get_or}
use lib.Ieee.{Float}
use Rattle.arrays.specs.Part.{put}
use Rattle.matrices.specs.Grid.{grid}
use Rattle.sheet.specs.Rows.{feature_of, remaining}
use Rattle.sheet.proofs.Remaining.{place}
use Rattle.sheet.proofs.fill_matrix.Given as goal

-- an entry of the matrix of n rows
abbrev pub entry : List ℕ → ℕ → ℕ → ℕ → ℕ → Float
entry b p n i j = feature_of b p (get_or (remaining b p n) i 0) j

abbrev pub invariant-loop-i : goal.invariant-loop-i
invariant-loop-i l = (l.i ≤ l.n) × (length l.x ≡ length l.initial.x) × (l.k ≡ place l.b l.p l.i) × (l.x ≡ put l.initial.x 0 (grid (entry l.b l.p l.n) l.k l.p))

abbrev pub decreases-loop-i : goal.decreases-loop-i
decreases-loop-i l = l.n - l.i
