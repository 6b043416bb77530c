-- Rows of a matrix in a list: the product of one with a vector, and rows in eight runs of e. Assumes nothing.
use mathlib.Core.Path.{◌≡◌, ap, ◌∙◌}
use mathlib.Core.List.{List}
use Prim.Native.Nat.{ℕ, ◌+◌, ◌*◌, ◌<◌}
use native.Mathlib.Nat.{add-mul, mul_assoc}
use native.Mathlib.Omega.{arith}
use lib.Ieee.{Float, nan}
use Rattle.numbers.specs.Ops.{◌⊗◌}
use Rattle.arrays.specs.Part.{part}
use Rattle.arrays.proofs.Part.{get_or-part}
use Rattle.arrays.specs.Sums.{◌!◌, products, plus0, product_of}
use Rattle.arrays.proofs.Folds.{fold-ext}
use Rattle.several.proofs.Runs.{run_room}

-- the product of xs, which is row r of m
pub row_is : (m : List Float) (cols r : ℕ) (xs ys : List Float) → ((j : ℕ) → j < cols → xs ! j ≡ m ! (r * cols + j))
    → product_of cols xs ys ≡ products plus0 (λ j. m ! (r * cols + j)) (λ j. ys ! j) cols
unfolding product_of
row_is m cols r xs ys row = fold-ext _ _ _ _ cols (λ j l. ap (λ (y : Float). y ⊗ ys ! j) (row j l))

-- row i of run k, and the room of all of them
pub run_row : (k e i cols : ℕ) → (k * e + i) * cols ≡ i * cols + k * (e * cols)
run_row k e i cols = omega (arith, add-mul (k * e) i cols, mul_assoc k e cols)

pub run-rows : (e cols : ℕ) → 8 * e * cols ≡ 8 * (e * cols)
run-rows e cols = mul_assoc 8 e cols

-- eight products, one of each run, are those of their rows: row i of the first run begins at `at` in xs, which holds m from `mat` on
pub run-product : (xs m : List Float) (mat e cols i at k : ℕ) (ys : List Float) → ((q : ℕ) → q < 8 * e * cols → xs ! (mat + q) ≡ m ! q) → at ≡ mat + i * cols
    → i < e → k < 8 → product_of cols (part xs (at + k * (e * cols)) cols) ys ≡ products plus0 (λ j. m ! ((k * e + i) * cols + j)) (λ j. ys ! j) cols
run-product xs m mat e cols i at k ys held q h l =
    row_is m cols (k * e + i) _ ys (λ j u.
    let place : at + k * (e * cols) + j ≡ mat + ((k * e + i) * cols + j) = omega (arith, run_row k e i cols) in
    get_or-part xs (at + k * (e * cols)) cols j nan u ∙ ap (λ (a : ℕ). xs ! a) place ∙ held _ (run_room (8 * e) cols j (k * e + i) u (run_room 8 e i k h l)))
