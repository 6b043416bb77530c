-- The prediction of a row, alone and as one of eight. Assumes nothing.
use mathlib.Core.Path.{◌≡◌, ap, ◌∙◌}
use mathlib.Core.List.{List}
use Prim.Native.Nat.{ℕ, ◌+◌, ◌*◌, ◌<◌}
use native.Mathlib.Nat.{zero-add}
use native.Mathlib.Omega.{arith}
use lib.ListN.{length}
use lib.Ieee.{Float, nan}
use Rattle.numbers.specs.Ops.{◌⊕◌}
use Rattle.arrays.specs.Part.{part, tab}
use Rattle.arrays.proofs.Part.{get_or-part, get_or-tab, part-all}
use Rattle.arrays.specs.Sums.{◌!◌, products, plus0, product_of}
use Rattle.several.proofs.Rows.{row_is, run-product}

-- the prediction of row i
abbrev pub one : ℕ → List Float → List Float → Float → ℕ → Float
one p x w b i = products plus0 (λ j. x ! (i * p + j)) (λ j. w ! j) p ⊕ b

module _ (p : ℕ) (x w : List Float) (b : Float) (i : ℕ) (q : length w ≡ p) where
  pub alone : product_of p (part x (i * p) p) (part w 0 p) ⊕ b ≡ one p x w b i
  alone = rw (part-all w p q) (ap (λ (t : Float). t ⊕ b) (row_is x p i _ w (λ j l. get_or-part x (i * p) p j nan l)))

  -- r is made of the products t of the rows i of eight runs of e rows
  pub of-eight : (e : ℕ) (t r : List Float) → i < e → t ≡ tab (λ k. product_of p (part x (i * p + k * (e * p)) p) (part w 0 p)) 8 → r ≡ tab (λ k. t ! k ⊕ b) 8
      → (k : ℕ) → k < 8 → r ! k ≡ one p x w b (k * e + i)
  of-eight e t r h sums made k l =
      let from_start : i * p ≡ 0 + i * p = omega arith in
      let product : t ! k ≡ products plus0 (λ j. x ! ((k * e + i) * p + j)) (λ j. w ! j) p =
      ap (λ (t : List Float). t ! k) sums ∙ get_or-tab _ 8 k nan l ∙ rw (part-all w p q)
      (run-product x x 0 e p i (i * p) k w (λ a u. rw zero-add) from_start h l) in
      ap (λ (t : List Float). t ! k) made ∙ get_or-tab _ 8 k nan l ∙ ap (λ (t : Float). t ⊕ b) product
