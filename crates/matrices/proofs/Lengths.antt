-- The lengths of products, and steps from row to row. Assumes nothing.
use mathlib.Core.Path.{◌≡◌}
use mathlib.Core.List.{List}
use Prim.Native.Nat.{ℕ, ◌+◌, ◌*◌, ◌≤◌, ◌<◌}
use native.Mathlib.Nat.{mul-le-mul_right, suc-mul, add-mul}
use native.Mathlib.Numerals.{add-one}
use native.Mathlib.Omega.{arith}
use lib.ListN.{length}
use lib.Ieee.{Float}
use Rattle.arrays.proofs.Part.{length-tab}
use Rattle.several.proofs.Rows.{run-rows}
use Rattle.matrices.specs.Products.{row_product, rows_of, column_product, columns_of}

pub length-rows : (m : List Float) (rows cols : ℕ) (xs : List Float) → length (rows_of m rows cols xs) ≡ rows
unfolding rows_of
length-rows m rows cols xs = length-tab (row_product m cols xs) rows

pub length-columns : (m : List Float) (rows cols : ℕ) (xs : List Float) → length (columns_of m rows cols xs) ≡ cols
unfolding columns_of
length-columns m rows cols xs = length-tab (column_product m rows cols xs) cols

-- row i of `rows` rows lies within them, and where the next begins
pub row_room : (i rows cols : ℕ) → i < rows → i * cols + cols ≤ rows * cols
row_room i rows cols h = rw (suc-mul i cols) at (mul-le-mul_right cols h)

pub next_row : (i cols : ℕ) → i * cols + cols ≡ (i + 1) * cols
next_row i cols = rw (add-one, suc-mul)

-- n rows from row i lie within `rows` rows
pub rows-room : (i n rows cols : ℕ) → i + n ≤ rows → i * cols + n * cols ≤ rows * cols
rows-room i n rows cols h = rw (← add-mul i n cols) (mul-le-mul_right cols h)

-- eight runs of e rows lie within `rows` rows, and so does row i of the last run
pub in-runs : (e rows cols : ℕ) → 8 * e ≤ rows → 8 * e * cols ≤ rows * cols
in-runs e rows cols h = mul-le-mul_right cols h

pub last-run : (i e rows cols : ℕ) → 8 * e ≤ rows → i < e → i * cols + 7 * (e * cols) + cols ≤ rows * cols
last-run i e rows cols h l = omega (arith, row_room i e cols l, in-runs e rows cols h, run-rows e cols)
