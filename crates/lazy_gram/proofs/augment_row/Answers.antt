-- `lazy_gram::augment_row` meets its contract: the diagonal's element, behind those that `times` wrote, is still as it was. Assumes nothing.
use mathlib.Core.Path.{◌≡◌, refl}
use mathlib.Core.List.{List}
use Prim.Native.Nat.{ℕ, ◌+◌}
use native.Mathlib.Omega.{arith}
use borrow.Author.Tests.{eq-eqb, ne_eqb}
use lib.ListN.{set}
use lib.Ieee.{Float, nan, binary64}
use Rattle.numbers.specs.Ops.{◌⊕◌, ◌⊗◌}
use Rattle.arrays.specs.Part.{part, put, tab}
use Rattle.arrays.proofs.Part.{tab-ext, length-tab, get_or-part, get_or-put-below, put-tab-more}
use Rattle.arrays.specs.Sums.{◌!◌}
use Rattle.arrays.specs.Vectors.{map_of}
use Rattle.arrays.proofs.Commute.{times-comm}
use Rattle.lazy_gram.specs.Nest.{raised_at}
use Rattle.lazy_gram.proofs.augment_row.Goals as goal

turn : (s : List Float) (at j : ℕ) (gg pp : Float) (s₁ : List Float) → s₁ ≡ put s at (map_of (λ (v : Float). gg ⊗ v) j (part s at j))
    → set s₁ (at + j) (s₁ ! (at + j) ⊗ gg ⊕ pp) ≡ put s at (tab (raised_at s at gg pp j) (j + 1))
unfolding map_of
turn s at j gg pp s₁ e =
    let f = raised_at s at gg pp j in
    let t : tab (λ k. gg ⊗ part s at j ! k) j ≡ tab f j =
    tab-ext (λ k. gg ⊗ part s at j ! k) f j
    (λ k l. rw (get_or-part s at j k nan l, ne_eqb j k (λ q. omega arith)) (times-comm binary64 gg (s ! (at + k)))) in
    let e₁ : s₁ ≡ put s at (tab f j) = rw t at e in
    let d : s₁ ! (at + j) ⊗ gg ⊕ pp ≡ f j = rw (e₁, get_or-put-below s at (tab f j) (at + j) nan (rw length-tab (omega arith)), eq-eqb j j refl) in
    rw (d, e₁) (put-tab-more s at f j)

pub times-requires : goal.times-requires
times-requires c = record { room = omega arith; first = omega arith; clear = λ _ _. refl }

pub returns : goal.returns
returns c = turn _ _ _ _ _ _ c.times.ensures
