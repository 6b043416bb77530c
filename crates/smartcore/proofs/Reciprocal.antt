-- The lazy products with a vector of reciprocals, in which +0 stands for division, are those of lazy_normalization.rs. Assumes nothing.
use mathlib.Core.Path.{◌≡◌, refl, ap, ◌∙◌}
use mathlib.Core.Bool.{Bool, true, false, cond, ◌&&◌}
use mathlib.Core.List.{List, ◌++◌}
use Prim.Native.Nat.{ℕ, ◌+◌, ◌*◌, ◌<◌}
use lib.Ieee.{Float, nan}
use Rattle.numbers.specs.Ops.{◌⊕◌, ◌⊖◌, ◌⊗◌, ◌⊘◌}
use Rattle.numbers.specs.Constants.{one}
use Rattle.arrays.specs.Part.{tab}
use Rattle.arrays.proofs.Part.{tab-ext, get_or-tab}
use Rattle.arrays.specs.Sums.{◌!◌, plus0}
use Rattle.arrays.proofs.Folds.{fold-ext}
use Rattle.settings.specs.declared.Terms.{Terms}
use Rattle.lazy_normalization.specs.Lazy.{is_normal, reciprocal_of, normalised, lazy_at, lazy_rows, lazy_columns}
use Rattle.lazy_normalization.proofs.Choice.{times-reciprocal, by-division}
use Rattle.smartcore.specs.LazyNormalization.{normalized, entry, matvec, transpose_matvec}

-- IF AND ELSE, and a reciprocal or +0
pub if-and-else : (raw center scale : Float) → normalised raw center scale (reciprocal_of scale) ≡ normalized raw center scale
unfolding normalized
if-and-else raw center scale = go (is_normal scale) (is_normal (one ⊘ scale)) refl refl where
  go : (a b : Bool) → is_normal scale ≡ a → is_normal (one ⊘ scale) ≡ b
      → normalised raw center scale (reciprocal_of scale) ≡ cond (is_normal scale && is_normal (one ⊘ scale)) ((raw ⊖ center) ⊗ (one ⊘ scale)) ((raw ⊖ center) ⊘ scale)
  go true true p q = rw (p, q, times-reciprocal raw center scale (rw p tt) (rw q tt))
  go true false p q = rw (p, q, by-division raw center scale (λ s t. rw q at t))
  go false b p q = rw (p, by-division raw center scale (λ s t. rw p at s))

module _ (n p : ℕ) (tm : Terms) (x centers scales : List Float) where
  abbrev pub reciprocals : List Float
  reciprocals = tab (λ j. reciprocal_of (scales ! j)) p

  entry-is : (i j : ℕ) → j < p → lazy_at p x centers scales reciprocals i j ≡ entry n p tm.gamma tm.padding x centers scales i j
  entry-is i j h =
      ap (normalised (x ! (i * p + j)) (centers ! j) (scales ! j)) (get_or-tab (λ k. reciprocal_of (scales ! k)) p j nan h)
      ∙ if-and-else (x ! (i * p + j)) (centers ! j) (scales ! j)

  pub rows_are : (v : List Float) → lazy_rows n p tm x centers scales reciprocals v ≡ matvec n p tm.gamma tm.padding x centers scales v
  unfolding lazy_rows matvec
  rows_are v =
      ap (λ (l : List Float). l ++ tab (λ j. tm.padding ⊗ v ! j) p)
      (tab-ext _ _ n
      (λ i h. ap (λ (s : Float). s ⊗ tm.gamma) (fold-ext (λ (a y : Float). a ⊕ y) plus0 _ _ p (λ j l. ap (λ (e : Float). e ⊗ v ! j) (entry-is i j l)))))

  pub columns-are : (v : List Float) → lazy_columns n p tm x centers scales reciprocals v ≡ transpose_matvec n p tm.gamma tm.padding x centers scales v
  unfolding lazy_columns transpose_matvec
  columns-are v =
      tab-ext _ _ p
      (λ j l. ap (λ (s : Float). tm.gamma ⊗ s ⊕ tm.padding ⊗ v ! (n + j)) (fold-ext (λ (a y : Float). a ⊕ y) plus0 _ _ n (λ i h. ap (λ (e : Float). e ⊗ v ! i) (entry-is i j l))))
