-- The Gram is symmetric, and no panel occurs in it. Assumes nothing.
use mathlib.Core.Path.{◌≡◌, sym, ◌∙◌}
use mathlib.Core.List.{List}
use Prim.Native.Nat.{ℕ, ◌+◌, ◌*◌, ◌<◌}
use native.Mathlib.Omega.{arith}
use lib.Dec.{eqb}
use lib.Ieee.{Float, nan}
use Rattle.numbers.specs.Ops.{◌⊗◌}
use Rattle.arrays.specs.Sums.{◌!◌, plus0}
use Rattle.arrays.specs.Vectors.{fill_of}
use Rattle.matrices.proofs.Grid.{get_or-grid}
use Rattle.settings.specs.declared.Terms.{Terms}
use Rattle.layout.specs.declared.Sizes.{Sizes}
use Rattle.layout.specs.Slots.{Slot, Store, ◌⟨◌≔◌⟩, num}
use Rattle.layout.proofs.Slots.{seen_same, seen_other}
use Rattle.layout.specs.Slots.{Slot.CENTRE, Slot.SCALE, Slot.LEFT, Slot.RIGHT, Slot.GRAM}
use Rattle.lazy_gram.specs.Gram.{cell_at, entry_of, augmented, lazy_gram_of, lazy_gram_store}
use Rattle.lazy_gram.specs.Nest.{entry}
use Rattle.lazy_gram.proofs.Carried.{entry-sym}
use Rattle.lazy_gram.proofs.Whole.{raised-sym}

pub gram-symmetric : (n p : ℕ) (m ce sc : List Float) (j k : ℕ) → entry_of n p m ce sc j k ≡ entry_of n p m ce sc k j
unfolding entry_of entry
gram-symmetric n p m ce sc j k = entry-sym (cell_at p m ce sc) n j k

pub lazy-gram-at : (n p : ℕ) (t : Terms) (m ce sc : List Float) (j k : ℕ) → j < p → k < p
    → lazy_gram_of n p t m ce sc ! (j * p + k) ≡ augmented t (eqb j k) (entry_of n p m ce sc j k)
unfolding lazy_gram_of
lazy-gram-at n p t m ce sc j k hj hk = get_or-grid (λ a i. augmented t (eqb a i) (entry_of n p m ce sc a i)) p p j k nan hj hk

pub lazy-gram-symmetric : (n p : ℕ) (t : Terms) (m ce sc : List Float) (j k : ℕ) → j < p → k < p
    → lazy_gram_of n p t m ce sc ! (j * p + k) ≡ lazy_gram_of n p t m ce sc ! (k * p + j)
lazy-gram-symmetric n p t m ce sc j k hj hk =
    lazy-gram-at n p t m ce sc j k hj hk
    ∙ raised-sym (t.gamma ⊗ t.gamma) (t.padding ⊗ t.padding) (entry_of n p m ce sc) (gram-symmetric n p m ce sc) j k
    ∙ sym (lazy-gram-at n p t m ce sc k j hk hj)

-- the Gram's slot, from the matrix and the slots of the centres and scales alone
pub gram-slot : (sh : Sizes) (t : Terms) (m : List Float) (v : Store) → lazy_gram_store sh t m v GRAM ≡ lazy_gram_of sh.n sh.p t m (v CENTRE) (v SCALE)
unfolding lazy_gram_store
gram-slot sh t m v =
    let blank : Store → List Float = λ u. fill_of plus0 (sh.pr * sh.pc) in
    let kept : (w : Slot) → (num w ≡ num LEFT → ⊥) → (num w ≡ num RIGHT → ⊥) → (v ⟨ LEFT ≔ blank ⟩ ⟨ RIGHT ≔ blank ⟩) w ≡ v w =
    λ w l r. seen_other (v ⟨ LEFT ≔ blank ⟩) RIGHT blank w r ∙ seen_other v LEFT blank w l in
    seen_same (v ⟨ LEFT ≔ blank ⟩ ⟨ RIGHT ≔ blank ⟩) GRAM (λ u. lazy_gram_of sh.n sh.p t m (u CENTRE) (u SCALE))
    ∙ rw (kept CENTRE (λ q. omega arith) (λ q. omega arith), kept SCALE (λ q. omega arith) (λ q. omega arith))

pub panels-do-not-matter : (sh₁ sh₂ : Sizes) → sh₁.n ≡ sh₂.n → sh₁.p ≡ sh₂.p → (t : Terms) (m : List Float) (v : Store)
    → lazy_gram_store sh₁ t m v GRAM ≡ lazy_gram_store sh₂ t m v GRAM
panels-do-not-matter sh₁ sh₂ en ep t m v = gram-slot sh₁ t m v ∙ rw (en, ep) (sym (gram-slot sh₂ t m v))
