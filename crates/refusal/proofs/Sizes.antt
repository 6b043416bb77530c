-- 1: the ranges of rows and columns, as what holds and as the test of it. Assumes nothing.
use mathlib.Core.Path.{◌≡◌}
use mathlib.Core.Bool.{true}
use Prim.Native.Nat.{ℕ, ◌≤◌}
use borrow.Author.Tests.{leb-true, le-leb}
use Rattle.refusal.specs.Sizes.{in_size}
use Rattle.refusal.proofs.Asking.{known_by, both_true}

pub record InSize (n p : ℕ) : Type 0 where
  pub some-rows : 1 ≤ n
  pub rows : n ≤ 4096
  pub some-columns : 1 ≤ p
  pub columns : p ≤ 64

module _ (n p : ℕ) where
  pub size-good : InSize n p → in_size n p ≡ true
  size-good z = rw (le-leb 1 n z.some-rows, le-leb n 4096 z.rows, le-leb 1 p z.some-columns, le-leb p 64 z.columns)

  pub size_of : in_size n p ≡ true → InSize n p
  size_of h =
      let t₁ = both_true _ _ h in
      let t₂ = both_true _ _ t₁.0 in
      let t₃ = both_true _ _ t₂.0 in
      record { some-rows = leb-true _ _ t₃.0; rows = leb-true _ _ t₃.1; some-columns = leb-true _ _ t₂.1; columns = leb-true _ _ t₁.1 }

  pub size-known : Dec (InSize n p)
  size-known = known_by size_of size-good
