-- An invariant that every part keeps holds at every pause and end. Assumes nothing.
use Prim.Native.Nat.{ℕ, ◌+◌, ◌≤◌}
use native.Mathlib.Omega.{arith}
use mathlib.Core.Path.{refl}
use mathlib.Core.List.{List, ◌∷◌}
use Rattle.pause.specs.Progress.{Always, calls, total}
use Rattle.pause.specs.Parts.{Parts, round+, solver+, trial+}
use Rattle.pause.specs.Unbroken.{unbroken}
use Rattle.pause.specs.Paused.{State, opening, solving, searching, counts_of, data_of, opened_by, Pending, step, call, start}
use Rattle.pause.specs.Invariant.{OfOpened, Keeps, Kept, EndKept}
use Rattle.pause.proofs.Cases.{Cases, step-cases}
use Rattle.pause.proofs.Budgets.{call-rule, calls-are-one}
use Rattle.pause.proofs.Unbroken.{of-unbroken}

pub start-kept : {S : Type 0} (I : ℕ → S → Type 0) (s : S) → I 0 s → Kept I (start s)
unfolding counts_of data_of opened_by
start-kept I s h = record { opened-all = refl; holds = h }

module _ {X S : Type 0} (F : Parts X S) (M : ℕ) (I : ℕ → S → Type 0) (keeps : Keeps I F M) where
  step_kept : (x : State S) → Pending M x → Kept I x → Always (Kept I) (EndKept I) (step F M x)
  unfolding Pending EndKept counts_of data_of opened_by round+ solver+ trial+
  step_kept x p h = step-cases F M (Kept I) (EndKept I) x (go x p h)
    where
      go : (x : State S) → Pending M x → Kept I x → Cases F M (Kept I) (EndKept I) x
      go (opening r c s) p h =
          let o : OfOpened (I (c.rounds + 1)) (F.opens r s) = rw h.opened-all (keeps.by-opens r s p (rw h.opened-all at h.holds)) in
          record {
            on-ready = λ t q. record { opened-all = omega arith; holds = rw q at o };
            on-done = λ t q. rw q at o;
            on-fails = λ x t q. rw q at o;
          }
      go (solving r k c s) p h =
          let o = keeps.by-turns c.rounds k s h.holds in
          record {
            on-more = λ t q l. record { opened-all = h.opened-all; holds = rw q at o };
            on-last = λ t q l. record { opened-all = h.opened-all; holds = keeps.by-aim c.rounds t (rw q at o) };
            on-stop = λ t q. record { opened-all = h.opened-all; holds = keeps.by-aim c.rounds t (rw q at o) };
          }
      go (searching r j c s) p h =
          let o = keeps.by-tries c.rounds s h.holds in
          record {
            on-accept = λ t q l. record { opened-all = h.opened-all; holds = rw q at o };
            on-limit = λ t q l. rw q at o;
            on-halve = λ t q l. record { opened-all = h.opened-all; holds = rw q at o };
            on-spent = λ t q l. rw q at o;
          }

  -- ONE CALL
  pub call_kept : (b : ℕ) (x : State S) → Kept I x → Always (Kept I) (EndKept I) (call F M b x)
  unfolding EndKept counts_of data_of
  call_kept b x h = call-rule F M (λ n. Kept I) (EndKept I) (λ n r c s l h. h.holds) (λ n. step_kept) b 0 x h

  -- AT EVERY PAUSE AND END
  pub kept-at-pauses : (b : ℕ) (bs : List ℕ) (s : S) → I 0 s → Always (Kept I) (EndKept I) (calls (call F M) (b ∷ bs) (start s))
  kept-at-pauses b bs s h = rw (calls-are-one F M b bs (start s)) (call_kept (total (b ∷ bs)) (start s) (start-kept I s h))

  -- AT THE END OF THE UNBROKEN FIT
  pub unbroken-kept : 1 ≤ F.solves → 1 ≤ F.trials → (s : S) → I 0 s → EndKept I (unbroken F M s)
  unbroken-kept some-solves some-trials s h =
      of-unbroken F M some-solves some-trials (λ b. Kept I) (EndKept I) s (λ b. call_kept b (start s) (start-kept I s h))
