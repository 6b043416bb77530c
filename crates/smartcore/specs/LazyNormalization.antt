-- lazy_normalization.rs: the products of LazyDesign, whose normalised matrix is not stored, with a vector. Definitions only.
use Rattle.std.specs.Prelude.{cond, ◌&&◌, List, ◌++◌, ℕ, ◌+◌, ◌*◌, Float}
use Rattle.numbers.specs.Ops.{◌⊕◌, ◌⊖◌, ◌⊗◌, ◌⊘◌}
use Rattle.numbers.specs.Constants.{one}
use Rattle.arrays.specs.Part.{tab}
use Rattle.arrays.specs.Sums.{◌!◌, products, plus0}
use Rattle.lazy_normalization.specs.Lazy.{is_normal}

-- the reciprocal only where neither it nor the scale loses normal precision
unfoldable pub normalized : Float → Float → Float → Float
normalized raw center scale =
    let reciprocal = one ⊘ scale in
    let use_reciprocal = is_normal scale && is_normal reciprocal in
    cond use_reciprocal ((raw ⊖ center) ⊗ reciprocal) ((raw ⊖ center) ⊘ scale)

-- x has n rows and p columns; below them stand p rows with padding on the diagonal
module _ (n p : ℕ) (gamma padding : Float) (x centers scales : List Float) where
  -- row i, column j of the first n rows, before gamma
  abbrev pub entry : ℕ → ℕ → Float
  entry i j = normalized (x ! (i * p + j)) (centers ! j) (scales ! j)

  unfoldable pub matvec : List Float → List Float
  matvec v = tab (λ i. products plus0 (entry i) (λ j. v ! j) p ⊗ gamma) n ++ tab (λ j. padding ⊗ v ! j) p

  unfoldable pub transpose_matvec : List Float → List Float
  transpose_matvec v = tab (λ j. gamma ⊗ products plus0 (λ i. entry i j) (λ i. v ! i) n ⊕ padding ⊗ v ! (n + j)) p
