-- Rows of a matrix in a slice, while a loop writes elsewhere, the turn that writes a row's product with a vector, and that of eight runs. Assumes nothing.
use mathlib.Core.Path.{◌≡◌, ap, ◌∙◌}
use mathlib.Core.List.{List}
use Prim.Native.Nat.{ℕ, ◌+◌, ◌*◌, ◌≤◌, ◌<◌}
use native.Mathlib.Omega.{arith}
use lib.ListN.{length, set}
use lib.Ieee.{Float, nan}
use Rattle.arrays.specs.Part.{part, tab}
use Rattle.arrays.proofs.Part.{get_or-part, get_or-tab}
use Rattle.arrays.specs.Sums.{◌!◌, product_of}
use Rattle.several.specs.Several.{spread_of}
use Rattle.arrays.proofs.Turns.{Made, part-kept, made_more}
use Rattle.several.proofs.Runs.{Runs, runs-spread}
use Rattle.several.proofs.Rows.{row_is, run-product}
use Rattle.matrices.specs.Products.{row_product}
use Rattle.matrices.proofs.Lengths.{row_room}

-- row r of the matrix at `mat`, which starts at `at`, is as it was
pub row_kept : {s₀ : List Float} {out n : ℕ} {f : ℕ → Float} {s : List Float} {i : ℕ} → Made s₀ out n f s i → (mat rows cols r at : ℕ)
    → (out < mat + rows * cols → out + n ≤ mat) → r < rows → at ≡ mat + r * cols → (j : ℕ) → j < cols
    → part s at cols ! j ≡ part s₀ mat (rows * cols) ! (r * cols + j)
row_kept {s = s} m mat rows cols r at off h e j l =
    let k : r * cols + j < rows * cols = omega (arith, row_room r rows cols h) in
    let e2 : mat + (r * cols + j) ≡ at + j = omega arith in
    rw (← part-kept m mat (rows * cols) off, get_or-part s at cols j nan l, get_or-part s mat (rows * cols) (r * cols + j) nan k, e2)

-- the turn that writes the product of row i, which is xs
pub row_more : {s₀ : List Float} {out rows : ℕ} {s : List Float} {i : ℕ} (m : List Float) (cols v : ℕ) (xs : List Float) (x : Float)
    → Made s₀ out rows (row_product m cols (part s₀ v cols)) s i → i < rows → (out < v + cols → out + rows ≤ v)
    → ((j : ℕ) → j < cols → xs ! j ≡ m ! (i * cols + j)) → x ≡ product_of cols xs (part s v cols)
    → Made s₀ out rows (row_product m cols (part s₀ v cols)) (set s (out + i) x) (i + 1)
row_more m cols v xs x d h off row e = made_more d x h (rw (e, part-kept d v cols off) (row_is m cols _ xs _ row))

-- ---- rows in eight runs of e

-- the turn that writes one product of each run: row i of the first run begins at `at` in xs, which holds m from `mat` on
pub run_more : {s₀ : List Float} {out e : ℕ} {s : List Float} {i : ℕ} (m : List Float) (mat cols v : ℕ) (xs : List Float) (at : ℕ) (t r : List Float)
    → Runs s₀ out 8 e (row_product m cols (part s₀ v cols)) s i 0 → i < e → out + 8 * e ≤ length s₀
    → part s v cols ≡ part s₀ v cols → ((q : ℕ) → q < 8 * e * cols → xs ! (mat + q) ≡ m ! q) → at ≡ mat + i * cols
    → t ≡ tab (λ k. product_of cols (part xs (at + k * (e * cols)) cols) (part s v cols)) 8 → r ≡ spread_of s (out + i) e (λ k. t ! k) 8
    → Runs s₀ out 8 e (row_product m cols (part s₀ v cols)) r (i + 1) 0
run_more {s₀} {e = e} {i = i} m mat cols v xs at t r d h room kept held q sums written =
    runs-spread d _ r written h room (λ k l.
    ap (λ (t : List Float). t ! k) sums ∙ get_or-tab _ 8 k nan l
    ∙ rw kept (run-product xs m mat e cols i at k (part s₀ v cols) held q h l))
