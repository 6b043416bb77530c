-- The lower triangle of a symmetric matrix and its mirror are the whole matrix. Assumes nothing.
use mathlib.Core.Path.{◌≡◌, refl, sym, ap, ◌∙◌}
use mathlib.Core.List.{List}
use Prim.Native.Nat.{ℕ, zero, suc, ◌+◌, ◌*◌, ◌≤◌, ◌<◌}
use native.Mathlib.Nat.{one-mul, mul-add, mul-one, add-mul}
use native.Mathlib.Omega.{arith}
use lib.ListN.{length}
use lib.Ieee.{Float}
use Rattle.arrays.specs.Part.{put, tab}
use Rattle.arrays.proofs.Part.{put-append, put-none}
use Rattle.arrays.specs.Sums.{◌!◌}
use Rattle.matrices.specs.Grid.{grid}
use Rattle.matrices.proofs.Grid.{length-grid}
use Rattle.gram_panels.specs.Panels.{mat, same, low, right_of, from_below}
use Rattle.matrices.proofs.Lengths.{row_room}
use Rattle.gram_panels.proofs.Mats.{put-tab-tab, mat-in, mat-ext, mat-put}

-- the lower triangle and the upper are the square
square : (s : List Float) (ga p : ℕ) (f : ℕ → ℕ → Float) (n : ℕ) → n ≤ p
    → mat (mat s ga p low f n) (ga + 1) (p + 1) (right_of p) (λ k b. f k (k + 1 + b)) n ≡ mat s ga p (same p) f n
unfolding mat
square s ga p f zero h = refl
square s ga p f (suc n) h =
    let U : ℕ → ℕ → Float = λ k b. f k (k + 1 + b) in
    let S = mat s ga p low f n in
    let q = ga + n * p in
    let last = tab (U n) (right_of p n) in
    let T = mat s ga p (same p) f n in
    let hq : (a : ℕ) → a < n → ga + 1 + a * (p + 1) + right_of p a ≤ q = λ a m. omega (arith, row_room a n p m, mul-add a p 1, mul-one a) in
    let e : ga + 1 + n * (p + 1) ≡ q + (n + 1) = omega (arith, mul-add n p 1, mul-one n) in
    let e2 : n + 1 + right_of p n ≡ p = omega arith in
    ap (λ (r : List Float). put r (ga + 1 + n * (p + 1)) last) (mat-put S (ga + 1) (p + 1) (right_of p) U q (tab (f n) (n + 1)) n hq)
    ∙ ap (λ (r : List Float). put (put r q (tab (f n) (n + 1))) (ga + 1 + n * (p + 1)) last) (square s ga p f n (omega arith))
    ∙ ap (λ (i : ℕ). put (put T q (tab (f n) (n + 1))) i last) e
    ∙ put-tab-tab T q (n + 1) (f n) (right_of p n)
    ∙ ap (λ (i : ℕ). put T q (tab (f n) i)) e2

-- rows without a gap are a grid
mat-grid : (s : List Float) (at p : ℕ) (f : ℕ → ℕ → Float) (n : ℕ) → mat s at p (same p) f n ≡ put s at (grid f n p)
unfolding mat grid
mat-grid s at p f zero = sym (put-none s at)
mat-grid s at p f (suc n) =
    ap (λ (r : List Float). put r (at + n * p) (tab (f n) p)) (mat-grid s at p f n)
    ∙ ap (λ (i : ℕ). put (put s at (grid f n p)) (at + i) (tab (f n) p)) (sym (length-grid f n p))
    ∙ put-append s at (grid f n p) (tab (f n) p)

-- the mirror of a lower triangle, whose matrix is symmetric, makes the rest of it
pub mirrored : (s : List Float) (ga p : ℕ) (f : ℕ → ℕ → Float) → ga + p * p ≤ length s → ((j k : ℕ) → f j k ≡ f k j)
    → mat (mat s ga p low f p) (ga + 1) (p + 1) (right_of p) (from_below (mat s ga p low f p) ga p) p ≡ put s ga (grid f p p)
mirrored s ga p f room h =
    let N = mat s ga p low f p in
    mat-ext N (ga + 1) (p + 1) (right_of p) (right_of p) (from_below N ga p) (λ j b. f j (j + 1 + b)) p (λ a l. refl)
    (λ j b hj hb.
    let e : ga + p + j * (p + 1) + b * p ≡ ga + (j + 1 + b) * p + j =
    omega (arith, mul-add j p 1, mul-one j, add-mul (j + 1) b p, add-mul j 1 p, one-mul p) in
    let hk : j + 1 + b < p = omega arith in
    ap (λ (q : ℕ). N ! q) e
    ∙ mat-in s ga p low f p (j + 1 + b) j (λ i l. omega arith) (omega (arith, row_room (j + 1 + b) p p hk)) hk (omega arith)
    ∙ h (j + 1 + b) j)
    ∙ square s ga p f p (omega arith) ∙ mat-grid s ga p f p
