-- Laws of a matrix by rows: its length, its entries, rows that follow rows, and a loop that writes one row after another. Assumes nothing.
use mathlib.Core.Path.{◌≡◌, refl, sym, ap, ◌∙◌}
use mathlib.Core.Logic.{⊎_elim}
use mathlib.Core.List.{List, ◌++◌, append-nil, append_assoc}
use Prim.Native.Nat.{ℕ, zero, suc, ◌+◌, ◌*◌, ◌<◌}
use native.Mathlib.Nat.{zero-mul, suc-mul, add-zero, add-suc, mul-le-mul_right, not-suc-le-zero, le_of_suc-le-suc, eq-or-lt_of_le}
use native.Mathlib.Numerals.{add-one}
use native.Mathlib.Omega.{arith}
use lib.ListN.{length, get_or, length-append, get_or-append}
use lib.Seq.{get_or-append-add}
use lib.Ieee.{Float}
use Rattle.arrays.specs.Part.{put, tab}
use Rattle.arrays.proofs.Part.{put-append, length-tab, get_or-tab, tab-ext}
use Rattle.matrices.specs.Grid.{grid}

pub length-grid : (f : ℕ → ℕ → Float) (rows cols : ℕ) → length (grid f rows cols) ≡ rows * cols
unfolding grid
length-grid f zero cols = rw zero-mul
length-grid f (suc rows) cols = length-append (grid f rows cols) (tab (f rows) cols) ∙ rw (length-grid f rows cols, length-tab, suc-mul)

-- a row more, at the end and at the front
pub grid-more : (f : ℕ → ℕ → Float) (rows cols : ℕ) → grid f (rows + 1) cols ≡ grid f rows cols ++ tab (f rows) cols
unfolding grid
grid-more f rows cols = rw add-one

pub grid-front : (f : ℕ → ℕ → Float) (rows cols : ℕ) → grid f (suc rows) cols ≡ tab (f 0) cols ++ grid (λ i. f (suc i)) rows cols
unfolding grid
grid-front f zero cols = sym (append-nil (tab (f 0) cols))
grid-front f (suc rows) cols =
    ap (λ (l : List Float). l ++ tab (f (suc rows)) cols) (grid-front f rows cols)
    ∙ append_assoc (tab (f 0) cols) (grid (λ i. f (suc i)) rows cols) (tab (f (suc rows)) cols)

pub grid-ext : (f g : ℕ → ℕ → Float) (rows cols : ℕ) → ((i j : ℕ) → i < rows → j < cols → f i j ≡ g i j) → grid f rows cols ≡ grid g rows cols
unfolding grid
grid-ext f g zero cols h = refl
grid-ext f g (suc rows) cols h =
    let e : tab (f rows) cols ≡ tab (g rows) cols = tab-ext (f rows) (g rows) cols (λ j l. h rows j (omega arith) l) in
    rw (grid-ext f g rows cols (λ i j l k. h i j (omega arith) k), e)

pub get_or-grid : (f : ℕ → ℕ → Float) (rows cols i j : ℕ) (d : Float) → i < rows → j < cols → get_or (grid f rows cols) (i * cols + j) d ≡ f i j
unfolding grid
get_or-grid f zero cols i j d h l = absurd (not-suc-le-zero h)
get_or-grid f (suc rows) cols i j d h l =
    ⊎_elim
    (λ (e : i ≡ rows).
    rw (e, ← length-grid f rows cols) (get_or-append-add (grid f rows cols) (tab (f rows) cols) j d ∙ get_or-tab (f rows) cols j d l))
    (λ (k : i < rows).
    get_or-append (grid f rows cols) (tab (f rows) cols) d (i * cols + j)
    (rw length-grid (omega (arith, suc-mul i cols, mul-le-mul_right cols k)))
    ∙ get_or-grid f rows cols i j d k l)
    (eq-or-lt_of_le (le_of_suc-le-suc h))

-- rows, and the rows that follow them
pub grid-append : (f : ℕ → ℕ → Float) (a b cols : ℕ) → grid f a cols ++ grid (λ i. f (a + i)) b cols ≡ grid f (a + b) cols
unfolding grid
grid-append f a zero cols = append-nil (grid f a cols) ∙ ap (λ (n : ℕ). grid f n cols) (sym (add-zero a))
grid-append f a (suc b) cols =
    sym (append_assoc (grid f a cols) (grid (λ i. f (a + i)) b cols) (tab (f (a + b)) cols))
    ∙ ap (λ (l : List Float). l ++ tab (f (a + b)) cols) (grid-append f a b cols)
    ∙ ap (λ (n : ℕ). grid f n cols) (sym (add-suc a b))

-- ---- a loop that writes the rows one after another from index a

pub put-grid-none : (s : List Float) (a : ℕ) (f : ℕ → ℕ → Float) (cols : ℕ) → s ≡ put s a (grid f 0 cols)
unfolding put grid
put-grid-none s a f cols = refl

pub put-grid-more : (s : List Float) (a : ℕ) (f : ℕ → ℕ → Float) (i cols : ℕ)
    → put (put s a (grid f i cols)) (a + i * cols) (tab (f i) cols) ≡ put s a (grid f (i + 1) cols)
unfolding grid
put-grid-more s a f i cols =
    ap (λ (n : ℕ). put (put s a (grid f i cols)) (a + n) (tab (f i) cols)) (sym (length-grid f i cols))
    ∙ put-append s a (grid f i cols) (tab (f i) cols)
    ∙ ap (λ (n : ℕ). put s a (grid f n cols)) (sym (add-one i))
