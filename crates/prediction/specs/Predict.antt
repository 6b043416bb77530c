-- Predictions: the refusals in 01's order, and what `out` holds afterwards. Definitions only.
use Rattle.refusal.specs.declared.Refusal.{Refusal}
use Rattle.std.specs.Prelude.{◌&&◌, List, [], ◌∷◌, ◌++◌, ℕ, ◌+◌, ◌*◌, eqb, length, Float, Result, ⊤, Ok, Err}
use Rattle.numbers.specs.Ops.{◌⊕◌}
use Rattle.arrays.specs.Part.{tab}
use Rattle.arrays.specs.Sums.{◌!◌, products, plus0}
use Rattle.arrays.specs.Scan.{first_infinite}
use Rattle.refusal.specs.declared.Refusal.TheVariants.{Size, Length}
use Rattle.refusal.specs.Checks.{ask, ask_values}
use Rattle.refusal.specs.Sizes.{in_size}
use Rattle.refusal.specs.Refusal.{number_of, place_of}

-- 5: matrix, weights and intercept as one list
unfoldable pub values_of : List Float → List Float → Float → Result ⊤ Refusal
values_of x w b = ask_values (first_infinite 0 (x ++ w ++ b ∷ [])) (Ok tt)

-- 1, 2, then these; `out` is the length of the slice for the predictions
unfoldable pub checked_of : ℕ → ℕ → List Float → List Float → Float → ℕ → Result ⊤ Refusal
checked_of n p x w b out =
    ask (in_size n p) Size
    (ask (eqb (length x) (n * p) && eqb (length w) p && eqb out n) Length
    (values_of x w b))

-- x.matmul(w): each row's sum from +0, in column order; then the intercept
unfoldable pub predicted_of : ℕ → ℕ → List Float → List Float → Float → List Float
predicted_of n p x w b = tab (λ i. products plus0 (λ j. x ! (i * p + j)) (λ j. w ! j) p ⊕ b) n

-- the answer, and the final content of `out`
pub data Outcome : Type 0 where
  outcome : Result ⊤ Refusal → List Float → Outcome

-- a refusal leaves `out` as it was
abbrev pub by_check : Result ⊤ Refusal → List Float → List Float → Outcome
by_check (Ok tt) o new = outcome (Ok tt) new
by_check (Err r) o new = outcome (Err r) o

unfoldable pub predict_of : ℕ → ℕ → List Float → List Float → Float → List Float → Outcome
predict_of n p x w b out = by_check (checked_of n p x w b (length out)) out (predicted_of n p x w b)

-- 01's number and place
pub data Said : Type 0 where
  done : Said
  refused : ℕ → ℕ → Said

abbrev pub said : Result ⊤ Refusal → Said
said (Ok tt) = done
said (Err r) = refused (number_of r) (place_of r)
