-- `sheet_write::Rows::pairs_check` meets its contract. The invariant: the answer is that of the rows that are left, from i on. Assumes nothing.
use Rattle.refusal.specs.declared.Refusal.{Refusal}
use Rattle.std.specs.Prelude.{Result, ⊤}
use mathlib.Core.Path.{◌≡◌}
use mathlib.Core.List.{List}
use Prim.Native.Nat.{ℕ, ◌-◌}
use lib.ListN.{get_or}
use lib.Ieee.{Float, binary64, to_bits}
use Rattle.arrays.specs.Sums.{◌!◌}
use Rattle.sheet.specs.Rows.{pairs_from}
use Rattle.sheet_write.proofs.Rows.pairs_check.Given as goal

abbrev pub pairs : List ℕ → List ℕ → List Float → ℕ → ℕ → Result ⊤ Refusal
pairs sources targets y = pairs_from (λ i. get_or sources i 0) (λ i. get_or targets i 0) (λ i. to_bits binary64 (y ! i))

abbrev pub invariant-loop-i : goal.invariant-loop-i
invariant-loop-i l = pairs l.self.sources.now l.self.targets.now l.self.y.now l.n 0 ≡ pairs l.self.sources.now l.self.targets.now l.self.y.now (l.n - l.i) l.i
