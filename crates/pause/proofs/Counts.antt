-- At every pause and end the counts are within their bounds, and at a pause they add up to the budgets. Assumes nothing.
use Prim.Native.Nat.{ℕ, suc, ◌+◌, ◌≤◌}
use native.Mathlib.Nat.{zero-add}
use native.Mathlib.Omega.{arith}
use mathlib.Core.List.{List, ◌∷◌}
use Rattle.pause.specs.Progress.{Always, calls, total}
use Rattle.pause.specs.Parts.{Parts, Counts, round+, solver+, trial+, made}
use Rattle.pause.specs.Paused.{State, opening, solving, searching, counts_of, Pending, step, call, start}
use Rattle.pause.specs.Bounds.{OpeningIn, StageIn, Counted, EndIn, EndWithin}
use Rattle.pause.proofs.Cases.{Cases, step-cases}
use Rattle.pause.proofs.Budgets.{call-rule, calls-are-one}

module _ {X S : Type 0} (F : Parts X S) (M : ℕ) where
  pub start-counted : (s : S) → Counted F M 0 (start s)
  unfolding StageIn counts_of made
  start-counted s = omega arith

  at-end : (r : ℕ) (c : Counts) → OpeningIn F M r c → EndIn F M c
  at-end r c h = rw h.opened-all (record { rounds-in = h.inside; solver-in = h.solver-in; trials-in = h.trials-in })

  module _ (some-solves : 1 ≤ F.solves) (some-trials : 1 ≤ F.trials) where
    pub step_counts : (n : ℕ) (x : State S) → Pending M x → Counted F M n x → Always (Counted F M (suc n)) (EndWithin F M) (step F M x)
    unfolding Pending StageIn EndWithin counts_of made round+ solver+ trial+
    step_counts n x p h = step-cases F M (Counted F M (suc n)) (EndWithin F M) x (go x p h)
      where
        go : (x : State S) → Pending M x → Counted F M n x → Cases F M (Counted F M (suc n)) (EndWithin F M) x
        go (opening r c s) p h =
            let e : EndIn F M (round+ c) = at-end (r + 1) (round+ c) (omega arith) in
            record { on-ready = λ t q. omega arith; on-done = λ t q. e; on-fails = λ x t q. e }
        go (solving r k c s) p h = record { on-more = λ t q l. omega arith; on-last = λ t q l. omega arith; on-stop = λ t q. omega arith }
        go (searching r j c s) p h =
            let e : EndIn F M (trial+ c) = at-end (r + 1) (trial+ c) (omega arith) in
            record { on-accept = λ t q l. omega arith; on-limit = λ t q l. e; on-halve = λ t q l. omega arith; on-spent = λ t q l. e }

    -- ONE CALL: as many steps as its budget says, or an end
    pub call-counts : (b n : ℕ) (x : State S) → Counted F M n x → Always (Counted F M (n + b)) (EndWithin F M) (call F M b x)
    unfolding StageIn EndWithin
    call-counts = call-rule F M (Counted F M) (EndWithin F M) (λ n r c s l h. at-end r c h.within) step_counts

    -- AT EVERY PAUSE AND END
    pub counts-at-pauses : (b : ℕ) (bs : List ℕ) (s : S) → Always (Counted F M (total (b ∷ bs))) (EndWithin F M) (calls (call F M) (b ∷ bs) (start s))
    counts-at-pauses b bs s = rw (calls-are-one F M b bs (start s)) (rw zero-add at (call-counts (total (b ∷ bs)) 0 (start s) (start-counted s)))
