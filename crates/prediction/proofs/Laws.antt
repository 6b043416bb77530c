-- What the contract of `predict` says: which refusal for which input, that the outcome is one, and that a refusal writes nothing. Assumes nothing.
use Rattle.std.specs.Prelude.{Result, ⊤, Ok, Err}
use mathlib.Core.Path.{◌≡◌, refl, sym, ap, ◌∙◌}
use mathlib.Core.List.{List, [], ◌∷◌, ◌++◌}
use Prim.Native.Nat.{ℕ}
use native.Mathlib.Omega.{arith}
use lib.ListN.{length}
use lib.Ieee.{Float}
use Rattle.refusal.specs.declared.Refusal.{Refusal}
use Rattle.refusal.specs.declared.Refusal.TheVariants.{Size, Length, NotFinite}
use Rattle.arrays.proofs.Scans.{FirstBad}
use Rattle.refusal.proofs.Sizes.{InSize}
use Rattle.prediction.specs.Predict.{Outcome, Outcome.outcome, by_check, checked_of, predicted_of, predict_of, Said.refused, said}
use Rattle.prediction.proofs.Checks.{Lengths, bad-size, bad-length, good-sizes, bad-value}

-- the contract of `predict`, for all input: it answers r, and leaves o' where o was
abbrev pub Predicts : ℕ → ℕ → List Float → List Float → Float → List Float → Result ⊤ Refusal → List Float → Type 0
Predicts n p x w b o r o' = outcome r o' ≡ predict_of n p x w b o

abbrev answer_in : Outcome → Result ⊤ Refusal
answer_in (outcome r o) = r

abbrev left_in : Outcome → List Float
left_in (outcome r o) = o

apart : {q : Refusal} → ◌≡◌ {A = Result ⊤ Refusal} (Err q) (Ok tt) → ⊥
apart h =
    let z : ◌≡◌ {A = ℕ} 0 1 = cc in
    omega arith

module _ (n p : ℕ) (x w : List Float) (b : Float) (o : List Float) where
  pub predict-unique : {r q : Result ⊤ Refusal} {o' o'' : List Float} → Predicts n p x w b o r o' → Predicts n p x w b o q o'' → (r ≡ q) × (o' ≡ o'')
  predict-unique c d =
      let e = c ∙ sym d in
      (ap answer_in e, ap left_in e)

  -- refusal k at place i is the first that holds
  pub data FirstRefusal : ℕ → ℕ → Type 0 where
    size : (InSize n p → ⊥) → FirstRefusal 1 0
    lengths : InSize n p → (Lengths n p x w (length o) → ⊥) → FirstRefusal 2 0
    value : InSize n p → Lengths n p x w (length o) → {i : ℕ} → FirstBad (x ++ w ++ b ∷ []) i → FirstRefusal 5 i

  module _ {r : Result ⊤ Refusal} {o' : List Float} (c : Predicts n p x w b o r o') where
    by-check : (k : Result ⊤ Refusal) → checked_of n p x w b (length o) ≡ k → outcome r o' ≡ by_check k o (predicted_of n p x w b)
    unfolding predict_of
    by-check k e = c ∙ ap (λ (k : Result ⊤ Refusal). by_check k o (predicted_of n p x w b)) e

    -- 01's number and place are those of the first refusal that holds
    pub first-refusal : {k i : ℕ} → FirstRefusal k i → said r ≡ refused k i
    first-refusal (size h) = ap said (ap answer_in (by-check (Err Size) (bad-size _ _ _ _ _ _ h)))
    first-refusal (lengths z h) = ap said (ap answer_in (by-check (Err Length) (bad-length _ _ _ _ _ _ z h)))
    first-refusal (value z l {i = i} f) = ap said (ap answer_in (by-check (Err (NotFinite i)) (good-sizes _ _ _ _ _ _ z l ∙ bad-value x w b i f)))

  pub refused-writes-nothing : {q : Refusal} {o' : List Float} → Predicts n p x w b o (Err q) o' → o' ≡ o
  refused-writes-nothing {q} {o'} c = go (checked_of n p x w b (length o)) refl where
    go : (k : Result ⊤ Refusal) → checked_of n p x w b (length o) ≡ k → o' ≡ o
    go (Ok tt) e = absurd (apart (ap answer_in (by-check c (Ok tt) e)))
    go (Err q') e = ap left_in (by-check c (Err q') e)
