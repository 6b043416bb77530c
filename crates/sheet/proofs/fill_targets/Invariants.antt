-- `sheet::fill_targets` meets its contract. The invariant: k of the first i rows remain, and their scores are the first k targets. The measure: n - i.
-- Assumes nothing.
use mathlib.Core.Path.{◌≡◌}
use mathlib.Core.List.{List}
use Prim.Native.Nat.{ℕ, ◌-◌, ◌≤◌}
use lib.ListN.{get_or}
use lib.Ieee.{Float}
use Rattle.arrays.proofs.Turns.{Made}
use Rattle.sheet.specs.Rows.{score_of, remaining}
use Rattle.sheet.proofs.Remaining.{place}
use Rattle.sheet.proofs.fill_targets.Given as goal

-- the first k targets of n rows are written
abbrev pub Written : List ℕ → ℕ → ℕ → List Float → List Float → ℕ → Type 0
Written b p n y₀ y k = Made y₀ 0 (place b p n) (λ i. score_of b p (get_or (remaining b p n) i 0)) y k

abbrev pub invariant-loop-i : goal.invariant-loop-i
invariant-loop-i l = (l.i ≤ l.n) × (l.k ≡ place l.b l.p l.i) × Written l.b l.p l.n l.initial.y l.y l.k

abbrev pub decreases-loop-i : goal.decreases-loop-i
decreases-loop-i l = l.n - l.i
