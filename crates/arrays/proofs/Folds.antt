-- A fold of no number, of one more, of the same numbers, and one taken up where another ended. Assumes nothing.
use mathlib.Core.Path.{◌≡◌, refl, sym, ap}
use Prim.Native.Nat.{ℕ, zero, suc, ◌+◌, ◌<◌}
use native.Mathlib.Nat.{add-zero, add-suc}
use native.Mathlib.Numerals.{add-one}
use native.Mathlib.Omega.{arith}
use lib.Ieee.{Float}
use Rattle.arrays.specs.Sums.{fold_to}

pub fold-none : (g : Float → Float → Float) (start : Float) (f : ℕ → Float) → fold_to g start f 0 ≡ start
unfolding fold_to
fold-none g start f = refl

pub fold_more : (g : Float → Float → Float) (start : Float) (f : ℕ → Float) (i : ℕ) → fold_to g start f (i + 1) ≡ g (fold_to g start f i) (f i)
unfolding fold_to
fold_more g start f i = rw add-one

-- one turn of a loop that folds
pub fold-turn : (g : Float → Float → Float) (start : Float) (f : ℕ → Float) (i : ℕ) (t x : Float) → t ≡ fold_to g start f i → x ≡ f i
    → g t x ≡ fold_to g start f (i + 1)
fold-turn g start f i t x et ex = rw (et, ex) (sym (fold_more g start f i))

pub fold-ext : (g : Float → Float → Float) (start : Float) (f h : ℕ → Float) (n : ℕ) → ((i : ℕ) → i < n → f i ≡ h i) → fold_to g start f n ≡ fold_to g start h n
unfolding fold_to
fold-ext g start f h zero e = refl
fold-ext g start f h (suc n) e =
    let q : f n ≡ h n = e n (omega arith) in
    rw (fold-ext g start f h n (λ i l. e i (omega arith)), q)

-- a fold taken up where another ended
pub fold_on : (g : Float → Float → Float) (start : Float) (f : ℕ → Float) (m n : ℕ) → fold_to g (fold_to g start f m) (λ i. f (m + i)) n ≡ fold_to g start f (m + n)
unfolding fold_to
fold_on g start f m zero = ap (fold_to g start f) (sym (add-zero m))
fold_on g start f m (suc n) = rw (fold_on g start f m n) (ap (fold_to g start f) (sym (add-suc m n)))
