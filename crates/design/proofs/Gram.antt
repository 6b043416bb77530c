-- The Gram is symmetric. Assumes nothing.
use mathlib.Core.Path.{◌≡◌, sym, ◌∙◌}
use mathlib.Core.List.{List}
use Prim.Native.Nat.{ℕ, ◌+◌, ◌*◌, ◌<◌}
use lib.Ieee.{Float, binary64, nan}
use Rattle.arrays.specs.Sums.{◌!◌, products, plus0}
use Rattle.arrays.proofs.Folds.{fold-ext}
use Rattle.arrays.proofs.Commute.{times-comm}
use Rattle.matrices.proofs.Grid.{get_or-grid}
use Rattle.design.specs.Eager.{gram_of}

-- an entry, whichever column comes first
pub entry-symmetric : (k p : ℕ) (d : List Float) (r c : ℕ)
    → products plus0 (λ i. d ! (i * p + r)) (λ i. d ! (i * p + c)) k ≡ products plus0 (λ i. d ! (i * p + c)) (λ i. d ! (i * p + r)) k
entry-symmetric k p d r c = fold-ext _ _ _ _ k (λ i l. times-comm binary64 (d ! (i * p + r)) (d ! (i * p + c)))

pub gram-symmetric : (k p : ℕ) (d : List Float) (r c : ℕ) → r < p → c < p → gram_of k p d ! (r * p + c) ≡ gram_of k p d ! (c * p + r)
unfolding gram_of
gram-symmetric k p d r c hr hc =
    get_or-grid _ p p r c nan hr hc ∙ entry-symmetric k p d r c ∙ sym (get_or-grid _ p p c r nan hc hr)
