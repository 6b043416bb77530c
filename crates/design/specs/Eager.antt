-- The stored design and its Gram: augment_x_and_y and InteriorPointOptimizer::new. Definitions only.
use Rattle.std.specs.Prelude.{Bool, cond, List, ℕ, ◌+◌, ◌*◌, ltb, eqb, Float}
use Rattle.numbers.specs.Ops.{◌⊖◌, ◌⊗◌, ◌⊘◌}
use Rattle.arrays.specs.Sums.{◌!◌, products, plus0}
use Rattle.matrices.specs.Grid.{grid}
use Rattle.settings.specs.declared.Terms.{Terms}
use Rattle.layout.specs.declared.Sizes.{Sizes}
use Rattle.layout.specs.Slots.{Store, ◌⟨◌≔◌⟩}
use Rattle.layout.specs.Slots.{Slot.CENTRE, Slot.SCALE, Slot.DESIGN, Slot.GRAM}

-- gamma times the matrix, normalised or raw, in n rows; below, padding on the diagonal of p rows of +0
abbrev pub design_at : Bool → Terms → ℕ → ℕ → List Float → List Float → List Float → ℕ → ℕ → Float
design_at normalise t n p m ce sc i j =
    let raw = m ! (i * p + j) in
    cond (ltb i n) (t.gamma ⊗ cond normalise ((raw ⊖ ce ! j) ⊘ sc ! j) raw) (cond (eqb i (n + j)) t.padding plus0)

-- the whole design, n + p rows
unfoldable pub design_of : Bool → Terms → ℕ → ℕ → List Float → List Float → List Float → List Float
design_of normalise t n p m ce sc = grid (design_at normalise t n p m ce sc) (n + p) p

unfoldable pub design_store : Sizes → Bool → Terms → List Float → Store → Store
design_store sh normalise t m v = v ⟨ DESIGN ≔ (λ u. design_of normalise t sh.n sh.p m (u CENTRE) (u SCALE)) ⟩

-- a.ab(true, a, false): entry (r, c) over all k rows, from +0
unfoldable pub gram_of : ℕ → ℕ → List Float → List Float
gram_of k p d = grid (λ r c. products plus0 (λ i. d ! (i * p + r)) (λ i. d ! (i * p + c)) k) p p

unfoldable pub gram_store : Sizes → Store → Store
gram_store sh v = v ⟨ GRAM ≔ (λ u. gram_of sh.stored sh.p (u DESIGN)) ⟩
