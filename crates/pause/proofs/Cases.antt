-- A step by its cases: what holds in each case, of the state that goes on or of the end, holds of what the step leaves. Assumes nothing.
use Prim.Native.Nat.{ℕ, ◌+◌, ◌<◌, ◌≤◌}
use mathlib.Core.Path.{◌≡◌, refl}
use mathlib.Core.Bool.{cond}
use lib.Dec.{ltb}
use borrow.Author.Tests.{ltb-true, ltb-false}
use Rattle.pause.specs.Progress.{Always}
use Rattle.pause.specs.Parts.{Opened, ready, done, fails, Turned, more, stop, Tried, accept, halve, Parts}
use Rattle.pause.specs.Parts.{Counts, round+, solver+, trial+, converged, limit, failed, End, end}
use Rattle.pause.specs.Paused.{State, opening, solving, searching, next_round, after_opening, after_turn, after_trial, step}
use Rattle.pause.proofs.Steps.{by-test}

by_less : {A : Type 0} (P : A → Type 0) (a b : ℕ) (x y : A) → (a < b → P x) → (b ≤ a → P y) → P (cond (ltb a b) x y)
by_less P a b x y f g = by-test P (ltb a b) x y (λ t. f (ltb-true a b t)) (λ t. g (ltb-false a b t))

pub next-cases : {X S : Type 0} (M : ℕ) (I : State S → Type 0) (P : End X S → Type 0) (r : ℕ) (c : Counts) (s : S) →
    (r < M → I (opening r c s)) → (M ≤ r → P (end limit c s)) → Always I P (next_round M r c s)
unfolding next_round
next-cases M I P r c s f g = by_less (Always I P) r M _ _ f g

module _ {X S : Type 0} (F : Parts X S) (M : ℕ) (I : State S → Type 0) (P : End X S → Type 0) where
  pub record AtOpening (r : ℕ) (c : Counts) (s : S) : Type 0 where
    pub on-ready : (t : S) → F.opens r s ≡ ready t → I (solving r 1 (round+ c) t)
    pub on-done : (t : S) → F.opens r s ≡ done t → P (end converged (round+ c) t)
    pub on-fails : (x : X) (t : S) → F.opens r s ≡ fails x t → P (end (failed x) (round+ c) t)

  pub record AtSolving (r k : ℕ) (c : Counts) (s : S) : Type 0 where
    pub on-more : (t : S) → F.turns k s ≡ more t → k < F.solves → I (solving r (k + 1) (solver+ c) t)
    pub on-last : (t : S) → F.turns k s ≡ more t → F.solves ≤ k → I (searching r 0 (solver+ c) (F.aim t))
    pub on-stop : (t : S) → F.turns k s ≡ stop t → I (searching r 0 (solver+ c) (F.aim t))

  pub record AtSearching (r j : ℕ) (c : Counts) (s : S) : Type 0 where
    pub on-accept : (t : S) → F.tries s ≡ accept t → r + 1 < M → I (opening (r + 1) (trial+ c) t)
    pub on-limit : (t : S) → F.tries s ≡ accept t → M ≤ r + 1 → P (end limit (trial+ c) t)
    pub on-halve : (t : S) → F.tries s ≡ halve t → j + 1 < F.trials → I (searching r (j + 1) (trial+ c) t)
    pub on-spent : (t : S) → F.tries s ≡ halve t → F.trials ≤ j + 1 → P (end (failed F.unaccepted) (trial+ c) t)

  abbrev pub Cases : State S → Type 0
  Cases (opening r c s) = AtOpening r c s
  Cases (solving r k c s) = AtSolving r k c s
  Cases (searching r j c s) = AtSearching r j c s

  opening-cases : (r : ℕ) (c : Counts) (s : S) → AtOpening r c s → (o : Opened X S) → F.opens r s ≡ o → Always I P (after_opening r (round+ c) o)
  unfolding after_opening
  opening-cases r c s h (ready t) e = h.on-ready t e
  opening-cases r c s h (done t) e = h.on-done t e
  opening-cases r c s h (fails x t) e = h.on-fails x t e

  solving-cases : (r k : ℕ) (c : Counts) (s : S) → AtSolving r k c s → (o : Turned S) → F.turns k s ≡ o → Always I P (after_turn F r k (solver+ c) o)
  unfolding after_turn
  solving-cases r k c s h (more t) e = by_less (Always I P) k F.solves _ _ (h.on-more t e) (h.on-last t e)
  solving-cases r k c s h (stop t) e = h.on-stop t e

  searching-cases : (r j : ℕ) (c : Counts) (s : S) → AtSearching r j c s → (o : Tried S) → F.tries s ≡ o → Always I P (after_trial F M r j (trial+ c) o)
  unfolding after_trial
  searching-cases r j c s h (accept t) e = next-cases M I P (r + 1) (trial+ c) t (h.on-accept t e) (h.on-limit t e)
  searching-cases r j c s h (halve t) e = by_less (Always I P) (j + 1) F.trials _ _ (h.on-halve t e) (h.on-spent t e)

  pub step-cases : (x : State S) → Cases x → Always I P (step F M x)
  unfolding step
  step-cases (opening r c s) h = opening-cases r c s h (F.opens r s) refl
  step-cases (solving r k c s) h = solving-cases r k c s h (F.turns k s) refl
  step-cases (searching r j c s) h = searching-cases r j c s h (F.tries s) refl
