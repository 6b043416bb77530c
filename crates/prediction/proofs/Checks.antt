-- The refusals in their order: each where its test is the first that fails. Assumes nothing.
use Rattle.refusal.specs.declared.Refusal.{Refusal}
use Rattle.std.specs.Prelude.{Option, None, Some, Result, ⊤, Ok, Err}
use mathlib.Core.Path.{◌≡◌, refl, sym, ◌∙◌}
use mathlib.Core.Bool.{Bool, true, false, ◌&&◌, cond}
use mathlib.Core.List.{List, [], ◌∷◌, ◌++◌, append_assoc}
use Prim.Native.Nat.{ℕ, ◌+◌, ◌*◌}
use native.Mathlib.Nat.{zero-add, add-zero}
use lib.Dec.{eqb}
use lib.ListN.{length}
use lib.Ieee.{Float, nan, inf, fin}
use lib.Ieee.Scale.{finite}
use borrow.Author.Tests.{eqb-true, eq-eqb}
use Rattle.arrays.specs.Scan.{first_infinite}
use Rattle.refusal.specs.declared.Refusal.TheVariants.{Size, Length, NotFinite}
use Rattle.refusal.specs.Checks.{ask_values, found_at}
use Rattle.arrays.proofs.Scans.{FirstBad, scan-first}
use Rattle.refusal.proofs.Asking.{then, values-last, values-more, refuted, both_true, ask-fine}
use Rattle.refusal.specs.Sizes.{in_size}
use Rattle.refusal.proofs.Sizes.{InSize, size-good, size_of}
use Rattle.prediction.specs.Predict.{values_of, checked_of}

-- ---- 1 and 2

pub record Lengths (n p : ℕ) (x w : List Float) (out : ℕ) : Type 0 where
  pub matrix : length x ≡ n * p
  pub weights : length w ≡ p
  pub predictions : out ≡ n

module _ (n p : ℕ) (x w : List Float) (out : ℕ) where
  abbrev length-test : Bool
  length-test = eqb (length x) (n * p) && eqb (length w) p && eqb out n

  length-good : Lengths n p x w out → length-test ≡ true
  length-good l = rw (eq-eqb (length x) (n * p) l.matrix, eq-eqb (length w) p l.weights, eq-eqb out n l.predictions)

  length-of : length-test ≡ true → Lengths n p x w out
  length-of h =
      let t = both_true _ _ h in
      let u = both_true _ _ t.0 in
      record { matrix = eqb-true _ _ u.0; weights = eqb-true _ _ u.1; predictions = eqb-true _ _ t.1 }

module _ (n p : ℕ) (x w : List Float) (b : Float) (out : ℕ) where
  pub bad-size : (InSize n p → ⊥) → checked_of n p x w b out ≡ Err Size
  unfolding checked_of
  bad-size h = rw (refuted (in_size n p) (λ t. h (size_of n p t)))

  pub bad-length : InSize n p → (Lengths n p x w out → ⊥) → checked_of n p x w b out ≡ Err Length
  unfolding checked_of
  bad-length z h = rw (size-good n p z, refuted (length-test n p x w out) (λ t. h (length-of n p x w out t)))

  pub good-sizes : InSize n p → Lengths n p x w out → checked_of n p x w b out ≡ values_of x w b
  unfolding checked_of
  good-sizes z l = rw (size-good n p z, length-good n p x w out l)

  pub passed : (k : Result ⊤ Refusal) → k ≡ checked_of n p x w b out → k ≡ Ok tt → InSize n p × Lengths n p x w out
  unfolding checked_of
  passed k e f =
      let h₁ = ask-fine _ _ _ (sym e ∙ f) in
      let h₂ = ask-fine _ _ _ h₁.1 in
      (size_of n p h₁.0, length-of n p x w out h₂.0)

-- ---- 5

module _ (x w : List Float) (b : Float) where
  pub by-scans : values_of x w b
      ≡ then (found_at (first_infinite 0 x) 0) (then (found_at (first_infinite 0 w) (length x)) (then (found_at (first_infinite 0 (b ∷ [])) (length x + length w)) (Ok tt)))
  unfolding values_of
  by-scans =
      rw (append_assoc x w (b ∷ []), values-more 0 x (Ok tt) (w ++ b ∷ []), zero-add (length x), values-more (length x) w (Ok tt) (b ∷ []), values-last (length x + length w) (b ∷ []) (Ok tt))

  -- what matrix and weights leave is the intercept's
  pub by-intercept : (f g : Option ℕ) (from further : ℕ) (u v : ⊤) → f ≡ first_infinite 0 x → g ≡ first_infinite 0 w → length x ≡ from → length x + length w ≡ further
      → found_at f 0 ≡ Ok u → found_at g from ≡ Ok v → values_of x w b ≡ cond (finite b) (Ok tt) (Err (NotFinite further))
  unfolding first_infinite
  by-intercept f g from further u v ef eg l k cf cg = rw (by-scans, ← ef, ← eg, cf, k, l, cg) (go b) where
    go : (b : Float) → then (found_at (first_infinite 0 (b ∷ [])) further) (Ok tt) ≡ cond (finite b) (Ok tt) (Err (NotFinite further))
    go nan = rw (add-zero further)
    go (inf s) = rw (add-zero further)
    go (fin s m e) = refl

  -- by the elements of matrix, weights and intercept as one list
  pub bad-value : (i : ℕ) → FirstBad (x ++ w ++ b ∷ []) i → values_of x w b ≡ Err (NotFinite i)
  unfolding values_of
  bad-value i h = rw (scan-first (x ++ w ++ b ∷ []) i h)
