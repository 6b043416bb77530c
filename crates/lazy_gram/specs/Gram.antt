-- The Gram of the design that is not stored: the same for every panel, and symmetric. Definitions only.
use Rattle.std.specs.Prelude.{Bool, cond, List, ℕ, ◌+◌, ◌*◌, ◌≤◌, eqb, length, Float}
use Rattle.numbers.specs.Ops.{◌⊕◌, ◌⊖◌, ◌⊗◌, ◌⊘◌}
use Rattle.arrays.specs.Sums.{◌!◌, products, plus0}
use Rattle.arrays.specs.Vectors.{fill_of}
use Rattle.matrices.specs.Grid.{grid}
use Rattle.settings.specs.declared.Terms.{Terms}
use Rattle.layout.specs.declared.Sizes.{Sizes}
use Rattle.layout.specs.declared.Places.{Places}
use Rattle.layout.specs.Slots.{Store, Room, ◌⟨◌≔◌⟩}
use Rattle.layout.specs.Slots.{Slot.CENTRE, Slot.SCALE, Slot.LEFT, Slot.RIGHT, Slot.GRAM}

-- row i, column j of the design's first n rows before gamma: in the Gram always by division
abbrev pub cell_at : ℕ → List Float → List Float → List Float → ℕ → ℕ → Float
cell_at p m ce sc i j = (m ! (i * p + j) ⊖ ce ! j) ⊘ sc ! j

-- entry (j, k) before augmentation: from +0, in row order, the products of both columns' numbers
unfoldable pub entry_of : ℕ → ℕ → List Float → List Float → List Float → ℕ → ℕ → Float
entry_of n p m ce sc j k = products plus0 (λ i. cell_at p m ce sc i j) (λ i. cell_at p m ce sc i k) n

-- times gamma · gamma, and on the diagonal plus padding · padding
abbrev pub augmented : Terms → Bool → Float → Float
augmented t diagonal x = cond diagonal (x ⊗ (t.gamma ⊗ t.gamma) ⊕ t.padding ⊗ t.padding) (x ⊗ (t.gamma ⊗ t.gamma))

-- the whole Gram; R and C do not occur in it
unfoldable pub lazy_gram_of : ℕ → ℕ → Terms → List Float → List Float → List Float → List Float
lazy_gram_of n p t m ce sc = grid (λ j k. augmented t (eqb j k) (entry_of n p m ce sc j k)) p p

-- the panels are +0 afterwards
unfoldable pub lazy_gram_store : Sizes → Terms → List Float → Store → Store
lazy_gram_store sh t m v =
    v
    ⟨ LEFT ≔ (λ u. fill_of plus0 (sh.pr * sh.pc)) ⟩
    ⟨ RIGHT ≔ (λ u. fill_of plus0 (sh.pr * sh.pc)) ⟩
    ⟨ GRAM ≔ (λ u. lazy_gram_of sh.n sh.p t m (u CENTRE) (u SCALE)) ⟩

-- what `gram` asks
pub record Lent (sh : Sizes) (l : Places) (m s : List Float) : Type 0 where
  pub room : Room sh l s
  pub matrix : sh.n * sh.p ≤ length m
  pub rows : sh.n ≤ length m
  pub columns : 1 ≤ sh.p
  pub panel-rows : 1 ≤ sh.pr
  pub panel-columns : 1 ≤ sh.pc
  pub small : sh.n + sh.p ≤ 4160
