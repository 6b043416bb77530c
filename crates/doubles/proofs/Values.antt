-- What the definitions of a fit make is a value of binary64: a choice of two such, and each sum from one. Assumes nothing.
use mathlib.Core.List.{List}
use Prim.Native.Nat.{ℕ, zero, suc}
use mathlib.Core.Bool.{false, not, ◌&&◌, ◌||◌}
use lib.Ieee.{Float, nan, inf, fin, binary64, is_nan, lt, eq}
use lib.Ieee.Bits.{of_bits-fits}
use lib.Ieee.Fits.{cond-fits, nan-fits, inf-fits, add-fits}
use Rattle.numbers.specs.Kinds.{negative}
use Rattle.numbers.specs.Order.{maximum_of, minimum_of}
use Rattle.numbers.specs.Root.{root_of}
use Rattle.arrays.specs.Sums.{fold_to, sum_to, dot_of, product_of, norm_two_of}
use Rattle.doubles.specs.Fit.{Double}

pub maximum-double : (x y : Float) → Double x → Double y → Double (maximum_of x y)
unfolding maximum_of
maximum-double x y h k = cond-fits binary64 (is_nan x || lt x y || (eq x y && negative x)) y x k h

pub minimum-double : (x y : Float) → Double x → Double y → Double (minimum_of x y)
unfolding minimum_of
minimum-double x y h k = cond-fits binary64 (is_nan x || lt y x || (eq x y && not (negative x))) y x k h

root-double : (x : Float) → Double x → Double (root_of x)
unfolding root_of
root-double nan h = nan-fits binary64
root-double (inf s) h = cond-fits binary64 s nan (inf false) (nan-fits binary64) (inf-fits binary64 false)
root-double (fin s zero e) h = h
root-double (fin s (suc m) e) h = cond-fits binary64 s nan _ (nan-fits binary64) (of_bits-fits binary64 _)

sum-double : (start : Float) (f : ℕ → Float) (n : ℕ) → Double start → Double (sum_to start f n)
unfolding fold_to
sum-double start f zero h = h
sum-double start f (suc n) h = add-fits binary64 _ _

pub dot-double : (n : ℕ) (xs ys : List Float) → Double (dot_of n xs ys)
unfolding dot_of
dot-double n xs ys = sum-double _ _ n (of_bits-fits binary64 _)

pub product-double : (n : ℕ) (xs ys : List Float) → Double (product_of n xs ys)
unfolding product_of
product-double n xs ys = sum-double _ _ n (of_bits-fits binary64 _)

pub norm-double : (n : ℕ) (xs : List Float) → Double (norm_two_of n xs)
unfolding norm_two_of
norm-double n xs = root-double _ (sum-double _ _ n (of_bits-fits binary64 _))
