-- The folds over indices are folds over lists, and f by indices is f by recursion: the forms that the laws of a trial are about. Assumes nothing.
use mathlib.Core.Path.{◌≡◌, refl, sym, ap, ◌∙◌}
use mathlib.Core.Bool.{true}
use mathlib.Core.List.{List, [], ◌∷◌, foldl}
use Prim.Native.Nat.{ℕ, zero, suc, ◌*◌}
use native.Mathlib.Nat.{mul_comm}
use native.Mathlib.Omega.{arith}
use lib.ListN.{length}
use lib.Ieee.{Float, inf, neg, of_bits}
use Rattle.numbers.specs.Kinds.{pzero, nzero}
use Rattle.numbers.specs.Ops.{◌⊕◌, ◌⊖◌}
use Rattle.numbers.specs.Order.{maximum_of}
use Rattle.logarithm.specs.Log.{ln_of}
use Rattle.arrays.specs.Part.{tab}
use Rattle.arrays.specs.Sums.{◌!◌, fold_to, sum_of}
use Rattle.matrices.specs.Grid.{grid}
use Rattle.matrices.proofs.Grid.{grid-front, length-grid}
use Rattle.line_search.specs.Search.{faces_of, faces_list, largest_of, sumlogneg_of}

fold-front : (g : Float → Float → Float) (start : Float) (f : ℕ → Float) (n : ℕ)
    → fold_to g start f (suc n) ≡ fold_to g (g start (f 0)) (λ i. f (suc i)) n
unfolding fold_to
fold-front g start f zero = refl
fold-front g start f (suc n) = ap (λ (x : Float). g x (f (suc n))) (fold-front g start f n)

pub fold-list : (g : Float → Float → Float) (h : Float → Float) (start : Float) (xs : List Float)
    → fold_to g start (λ i. h (xs ! i)) (length xs) ≡ foldl (λ (a v : Float). g a (h v)) start xs
unfolding fold_to
fold-list g h start [] = refl
fold-list g h start (x ∷ xs) = fold-front g start (λ i. h ((x ∷ xs) ! i)) (length xs) ∙ fold-list g h (g start (h x)) xs

pub largest-list : (n : ℕ) (fs : List Float) → length fs ≡ n → largest_of n fs ≡ foldl (λ (a v : Float). maximum_of v a) (inf true) fs
unfolding largest_of
largest-list n fs e = rw (← e) (fold-list (λ (a v : Float). maximum_of v a) (λ v. v) (inf true) fs)

pub sumlogneg-list : (n : ℕ) (fs : List Float) → length fs ≡ n → sumlogneg_of n fs ≡ foldl (λ (a v : Float). a ⊕ ln_of (neg v)) pzero fs
unfolding sumlogneg_of of_bits
sumlogneg-list n fs e = rw (← e) (fold-list (λ (a v : Float). a ⊕ v) (λ v. ln_of (neg v)) pzero fs)

pub sum-list : (n : ℕ) (us : List Float) → length us ≡ n → sum_of n us ≡ foldl (λ (a v : Float). a ⊕ v) nzero us
unfolding sum_of of_bits
sum-list n us e = rw (← e) (fold-list (λ (a v : Float). a ⊕ v) (λ v. v) nzero us)

faces-same : (ws us : List Float) → length us ≡ length ws → faces_of (length ws) ws us ≡ faces_list ws us
unfolding faces_of grid tab
faces-same [] us e = refl
faces-same (w ∷ ws) [] e = absurd (omega (arith, e))
faces-same (w ∷ ws) (u ∷ us) e =
    grid-front _ (length ws) 2 ∙ ap (λ (l : List Float). (w ⊖ u) ∷ (neg w ⊖ u) ∷ l) (faces-same ws us (omega (arith, e)))

pub faces-list : (p : ℕ) (ws us : List Float) → length ws ≡ p → length us ≡ p → faces_of p ws us ≡ faces_list ws us
faces-list p ws us ew eu = rw (← ew) (faces-same ws us (eu ∙ sym ew))

-- f lies in p rows of two, and its slot has 2 * p
pub length-faces : (p : ℕ) (ws us : List Float) → length (faces_of p ws us) ≡ 2 * p
unfolding faces_of
length-faces p ws us = length-grid _ p 2 ∙ mul_comm p 2
