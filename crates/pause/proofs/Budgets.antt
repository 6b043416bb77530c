-- Calls come to the sum of their budgets: where a fit is paused changes nothing, nor does budget 0. Assumes nothing.
use Prim.Native.Nat.{ℕ, suc, ◌+◌, ◌≤◌}
use native.Mathlib.Nat.{add-zero, add_assoc}
use mathlib.Core.Path.{◌≡◌, refl, ap, sym, ◌∙◌, fun_ext}
use mathlib.Core.List.{List, [], ◌∷◌}
use borrow.Author.Tests.{lt-ltb}
use Rattle.pause.specs.Progress.{Progress, over, going, then, Always, Any, run, calls, total}
use Rattle.pause.specs.Parts.{Parts, Counts, none, limit, End, end}
use Rattle.pause.specs.Paused.{State, opening, solving, searching, Pending, next_round, step, settle, call, start}
use Rattle.pause.proofs.Steps.{then-assoc, then-going, always-then, run-add, run-rule}
use Rattle.pause.proofs.Cases.{Cases, next-cases, step-cases}

module _ {X S : Type 0} (F : Parts X S) (M : ℕ) where
  -- settling leaves a step to take, and so does each step
  settle-pends : (x : State S) → Always (Pending M) Any (settle F M x)
  unfolding settle Pending
  settle-pends (opening r c s) = next-cases M (Pending M) Any r c s (λ h. h) (λ h. tt)
  settle-pends (solving r k c s) = tt
  settle-pends (searching r j c s) = tt

  step-pends : (x : State S) → Always (Pending M) Any (step F M x)
  unfolding Pending
  step-pends x = step-cases F M (Pending M) Any x (go x)
    where
      go : (x : State S) → Cases F M (Pending M) Any x
      go (opening r c s) = record { on-ready = λ t e. tt; on-done = λ t e. tt; on-fails = λ x t e. tt }
      go (solving r k c s) = record { on-more = λ t e h. tt; on-last = λ t e h. tt; on-stop = λ t e. tt }
      go (searching r j c s) = record { on-accept = λ t e h. h; on-limit = λ t e h. tt; on-halve = λ t e h. tt; on-spent = λ t e h. tt }

  -- ONE CALL leaves a step to take, or an end
  pub call-pends : (b : ℕ) (x : State S) → Always (Pending M) Any (call F M b x)
  unfolding call
  call-pends b x =
      always-then (Pending M) (Pending M) Any (settle F M x) (run (step F M) b) (settle-pends x)
      (λ y p. run-rule (step F M) (Pending M) (λ n. Pending M) Any step-pends (λ n z q i. step-pends z) b 0 y p p)

  -- what each step that is to be taken keeps, n the steps made, a call keeps
  pub call-rule : (I : ℕ → State S → Type 0) (P : End X S → Type 0) →
      ((n r : ℕ) (c : Counts) (s : S) → M ≤ r → I n (opening r c s) → P (end limit c s)) →
      ((n : ℕ) (x : State S) → Pending M x → I n x → Always (I (suc n)) P (step F M x)) →
      (b n : ℕ) (x : State S) → I n x → Always (I (n + b)) P (call F M b x)
  unfolding call settle Pending
  call-rule I P ends keeps b n x h =
      always-then (λ y. Pending M y × I n y) (I (n + b)) P (settle F M x) (run (step F M) b) (go x h)
      (λ y k. run-rule (step F M) (Pending M) I P step-pends keeps b n y k.0 k.1)
    where
      go : (x : State S) → I n x → Always (λ y. Pending M y × I n y) P (settle F M x)
      go (opening r c s) h = next-cases M _ P r c s (λ l. (l, h)) (λ l. ends n r c s l h)
      go (solving r k c s) h = (tt, h)
      go (searching r j c s) h = (tt, h)

  settle-nothing : (x : State S) → Pending M x → settle F M x ≡ going x
  unfolding settle Pending next_round
  settle-nothing (opening r c s) p = rw (lt-ltb r M p)
  settle-nothing (solving r k c s) p = refl
  settle-nothing (searching r j c s) p = refl

  -- BUDGET 0 changes nothing where a step is to be taken
  pub budget-0 : (x : State S) → Pending M x → call F M 0 x ≡ going x
  unfolding call run then
  budget-0 x p = rw (settle-nothing x p)

  settle-again : (m : Progress (End X S) (State S)) (b : ℕ) → Always (Pending M) Any m → then m (call F M b) ≡ then m (run (step F M) b)
  unfolding then call
  settle-again (over e) b h = refl
  settle-again (going x) b h = rw (settle-nothing x h)

  -- A CALL WITH BUDGET a + b is one with a, then one with b
  pub call-add : (a b : ℕ) (x : State S) → call F M (a + b) x ≡ then (call F M a x) (call F M b)
  unfolding call
  call-add a b x = rw (settle-again (call F M a x) b (call-pends a x), then-assoc) (ap (then (settle F M x)) (fun_ext (run-add (step F M) a b)))

  -- CALLS ARE ONE CALL with the sum of their budgets
  pub calls-are-one : (b : ℕ) (bs : List ℕ) (x : State S) → calls (call F M) (b ∷ bs) x ≡ call F M (total (b ∷ bs)) x
  unfolding calls total
  calls-are-one b [] x = rw (add-zero, then-going)
  calls-are-one b (d ∷ bs) x = ap (then (call F M b x)) (fun_ext (calls-are-one d bs)) ∙ sym (call-add b (total (d ∷ bs)) x)

  -- NO PAUSE WITH ALL ROUNDS MADE: after a call a step is to be taken
  pub pending-at-pauses : (b : ℕ) (bs : List ℕ) (x : State S) → Always (Pending M) Any (calls (call F M) (b ∷ bs) x)
  pending-at-pauses b bs x = rw (calls-are-one b bs x) (call-pends (total (b ∷ bs)) x)

  -- A BUDGET SPLIT IN TWO changes nothing
  pub split-budget : (a b : ℕ) (bs : List ℕ) (x : State S) → calls (call F M) ((a + b) ∷ bs) x ≡ calls (call F M) (a ∷ b ∷ bs) x
  unfolding total
  split-budget a b bs x = rw (calls-are-one (a + b) bs x, calls-are-one a (b ∷ bs) x, add_assoc)

-- M = 0: the first call ends a fresh fit as limit, with no step made
pub limit-0 : {X S : Type 0} (F : Parts X S) (b : ℕ) (bs : List ℕ) (s : S) → calls (call F 0) (b ∷ bs) (start s) ≡ over (end limit none s)
unfolding calls call settle next_round then
limit-0 F b bs s = refl
