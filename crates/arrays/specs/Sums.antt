-- Left folds over the numbers f 0, f 1, .. f (n - 1), each with its start, and what arrays.rs makes of a vector by them. Definitions only.
use Rattle.std.specs.Prelude.{List, ℕ, zero, suc, true, pos, get_or, Float}
use Rattle.std.specs.Float.{nan, inf, binary64}
use Rattle.std.specs.Float.Ieee.{of_int}
use Rattle.numbers.specs.Ops.{◌⊕◌, ◌⊗◌, ◌⊘◌, f64, magnitude_of}
use Rattle.numbers.specs.Order.{maximum_of}
use Rattle.numbers.specs.declared.powers.Exponent.TheVariants.{One, Two, Half}
use Rattle.numbers.specs.Powers.{power_of}
use Rattle.numbers.specs.Root.{root_of}

-- the element at i of a vector that has one there
infixl 8 ◌!◌
abbrev pub ◌!◌ : List Float → ℕ → Float
xs ! i = get_or xs i nan

unfoldable pub fold_to : (Float → Float → Float) → Float → (ℕ → Float) → ℕ → Float
fold_to g start f zero = start
fold_to g start f (suc n) = g (fold_to g start f n) (f n)

abbrev pub plus0 : Float
plus0 = f64 0

abbrev pub minus0 : Float
minus0 = f64 0x8000_0000_0000_0000

abbrev pub sum_to : Float → (ℕ → Float) → ℕ → Float
sum_to start f n = fold_to (λ (a x : Float). a ⊕ x) start f n

-- the one sum of products: of rows, columns and Gram entries
abbrev pub products : Float → (ℕ → Float) → (ℕ → Float) → ℕ → Float
products start f g n = sum_to start (λ i. f i ⊗ g i) n

-- `sum` and `dot` are iter().sum(), which starts from -0
unfoldable pub sum_of : ℕ → List Float → Float
sum_of n xs = sum_to minus0 (λ i. xs ! i) n

unfoldable pub dot_of : ℕ → List Float → List Float → Float
dot_of n xs ys = products minus0 (λ i. xs ! i) (λ i. ys ! i) n

-- a sum of products that a loop makes from T::zero()
unfoldable pub product_of : ℕ → List Float → List Float → Float
product_of n xs ys = products plus0 (λ i. xs ! i) (λ i. ys ! i) n

-- norm(1), norm2(), norm(2) and norm(inf); norm(p) is by powers, and norm2() is not
unfoldable pub norm1_of : ℕ → List Float → Float
norm1_of n xs = power_of One (sum_to plus0 (λ i. power_of One (magnitude_of (xs ! i))) n)

unfoldable pub norm2_of : ℕ → List Float → Float
norm2_of n xs = root_of (products plus0 (λ i. xs ! i) (λ i. xs ! i) n)

unfoldable pub norm_two_of : ℕ → List Float → Float
norm_two_of n xs = power_of Half (sum_to plus0 (λ i. power_of Two (magnitude_of (xs ! i))) n)

unfoldable pub norm_inf_of : ℕ → List Float → Float
norm_inf_of n xs = fold_to maximum_of (inf true) (λ i. magnitude_of (xs ! i)) n

-- n as f64
abbrev pub whole : ℕ → Float
whole n = of_int binary64 (pos n)

-- the 1-D mean
unfoldable pub mean_of : ℕ → List Float → Float
mean_of n xs = sum_of n xs ⊘ whole n
