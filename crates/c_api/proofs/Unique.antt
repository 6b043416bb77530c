-- Any two outcomes that a contract permits coincide. Assumes nothing.
use mathlib.Core.Path.{◌≡◌, sym, ap, ◌∙◌}
use mathlib.Core.List.{List}
use Prim.Native.Nat.{ℕ}
use lib.Ieee.{Float}
use Rattle.c_answers.specs.Called.{Called, called}
use Rattle.c_api.specs.Calls.{ScratchCall, StartCall, ResumeCall, PredictCall, SolveCall}

abbrev number_in : Called → ℕ
number_in (called r p a w s) = r

abbrev record_in : Called → List ℕ
record_in (called r p a w s) = p

abbrev answer_in : Called → List ℕ
answer_in (called r p a w s) = a

abbrev weights_in : Called → List Float
weights_in (called r p a w s) = w

abbrev scratch_in : Called → List Float
scratch_in (called r p a w s) = s

outcomes-coincide : {o : Called} {r r' : ℕ} {p p' a a' : List ℕ} {w w' s s' : List Float} → called r p a w s ≡ o → called r' p' a' w' s' ≡ o
    → (r ≡ r') × (p ≡ p') × (a ≡ a') × (w ≡ w') × (s ≡ s')
outcomes-coincide h k =
    let e = h ∙ sym k in
    (ap number_in e, ap record_in e, ap answer_in e, ap weights_in e, ap scratch_in e)

pub scratch-call-unique : (n p : ℕ) (sw : List ℕ) {r r' : ℕ} → ScratchCall n p sw r → ScratchCall n p sw r' → r ≡ r'
scratch-call-unique n p sw h k = h ∙ sym k

pub start-call-unique : (n p : ℕ) (x y : List Float) (sw rw : List ℕ) (s : List Float) (aw : List ℕ) {r r' : ℕ} {rw₁ rw₂ aw₁ aw₂ : List ℕ} {s₁ s₂ : List Float}
    → StartCall n p x y sw rw s aw r rw₁ aw₁ s₁ → StartCall n p x y sw rw s aw r' rw₂ aw₂ s₂ → (r ≡ r') × (rw₁ ≡ rw₂) × (aw₁ ≡ aw₂) × (s₁ ≡ s₂)
start-call-unique n p x y sw rw s aw h k =
    let e = outcomes-coincide h k in
    (e.0, e.1, e.2, e.4)

pub resume-call-unique : (n p : ℕ) (x y : List Float) (sw rw : List ℕ) (s w : List Float) (b : ℕ) (aw : List ℕ)
    {r r' : ℕ} {rw₁ rw₂ aw₁ aw₂ : List ℕ} {w₁ w₂ s₁ s₂ : List Float}
    → ResumeCall n p x y sw rw s w b aw r rw₁ aw₁ w₁ s₁ → ResumeCall n p x y sw rw s w b aw r' rw₂ aw₂ w₂ s₂
    → (r ≡ r') × (rw₁ ≡ rw₂) × (aw₁ ≡ aw₂) × (w₁ ≡ w₂) × (s₁ ≡ s₂)
resume-call-unique n p x y sw rw s w b aw h k = outcomes-coincide h k

pub predict-call-unique : (n p : ℕ) (x w : List Float) (b : Float) (out : List Float) (aw : List ℕ) {r r' : ℕ} {aw₁ aw₂ : List ℕ} {o₁ o₂ : List Float}
    → PredictCall n p x w b out aw r aw₁ o₁ → PredictCall n p x w b out aw r' aw₂ o₂ → (r ≡ r') × (aw₁ ≡ aw₂) × (o₁ ≡ o₂)
predict-call-unique n p x w b out aw h k =
    let e = outcomes-coincide h k in
    (e.0, e.2, e.3)

pub solve-call-unique : (n : ℕ) (a b x : List Float) (tol : Float) (limit : ℕ) (s : List Float) (aw : List ℕ)
    {r r' : ℕ} {aw₁ aw₂ : List ℕ} {x₁ x₂ s₁ s₂ : List Float}
    → SolveCall n a b x tol limit s aw r aw₁ x₁ s₁ → SolveCall n a b x tol limit s aw r' aw₂ x₂ s₂ → (r ≡ r') × (aw₁ ≡ aw₂) × (x₁ ≡ x₂) × (s₁ ≡ s₂)
solve-call-unique n a b x tol limit s aw h k =
    let e = outcomes-coincide h k in
    (e.0, e.2, e.3, e.4)
