-- Whether every reciprocal is there: one after another, and each where all are. Assumes nothing.
use mathlib.Core.Path.{◌≡◌, refl, sym, subst}
use mathlib.Core.Bool.{Bool, true, false, cond}
use mathlib.Core.List.{List}
use Prim.Native.Nat.{ℕ, zero, suc, ◌+◌, ◌<◌}
use native.Mathlib.Numerals.{add-one}
use native.Mathlib.Decide.{dec_lt}
use native.Mathlib.Omega.{arith}
use lib.Dec.{T}
use lib.Ieee.{Float, eq}
use Rattle.arrays.specs.Sums.{◌!◌, plus0}
use Rattle.lazy_columns.specs.ColumnSums.{all_there}

pub none_yet : (rc : List Float) → true ≡ all_there rc 0
unfolding all_there
none_yet rc = refl

pub one-missing : (rc : List Float) (j : ℕ) → eq (rc ! j) plus0 ≡ true → false ≡ all_there rc (j + 1)
unfolding all_there
one-missing rc j e = rw (add-one, e)

pub one-there : (rc : List Float) (j : ℕ) → eq (rc ! j) plus0 ≡ false → all_there rc j ≡ all_there rc (j + 1)
unfolding all_there
one-there rc j e = rw (add-one, e)

pub each-there : (rc : List Float) (p : ℕ) → all_there rc p ≡ true → (j : ℕ) → j < p → eq (rc ! j) plus0 ≡ false
unfolding all_there
each-there rc zero t j h = absurd (omega arith)
each-there rc (suc p) t j h = go (eq (rc ! p) plus0) refl t (dec_lt j p) (λ u k. each-there rc p u j k) where
  go : (b : Bool) → eq (rc ! p) plus0 ≡ b → cond b false (all_there rc p) ≡ true → Dec (j < p) → (all_there rc p ≡ true → j < p → eq (rc ! j) plus0 ≡ false)
      → eq (rc ! j) plus0 ≡ false
  go true e t d before = absurd (subst T (sym t) tt)
  go false e t (yes k) before = before t k
  go false e t (no k) before =
      let q : j ≡ p = omega (arith, k) in
      rw q e
