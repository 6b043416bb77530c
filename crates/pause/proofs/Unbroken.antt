-- The pause theorem: calls whose budgets suffice end as the unbroken fit does. Assumes nothing.
use Prim.Native.Nat.{ℕ, suc, ◌+◌, ◌-◌, ◌*◌, ◌<◌, ◌≤◌}
use native.Mathlib.Nat.{mul-le-mul_right, sub-eq-zero_of_le, sub-zero, zero-add}
use native.Mathlib.Omega.{arith}
use mathlib.Core.Path.{◌≡◌, ap, sym}
use mathlib.Core.List.{List, [], ◌∷◌}
use Rattle.pause.specs.Progress.{Progress, over, going, then, Always, Any, calls, total}
use Rattle.pause.specs.Parts.{Parts, made, End}
use Rattle.pause.specs.Unbroken.{Reached, reached, open_round, solve, line_search, one_round, many_rounds, close, unbroken}
use Rattle.pause.specs.Paused.{State, opening, solving, searching, counts_of, Pending, step, call, start}
use Rattle.pause.specs.Bounds.{StageIn, Counted, EndWithin}
use Rattle.pause.proofs.Steps.{always-both}
use Rattle.pause.proofs.Cases.{Cases, step-cases}
use Rattle.pause.proofs.Budgets.{call-rule, calls-are-one, pending-at-pauses}
use Rattle.pause.proofs.Counts.{start-counted, step_counts, call-counts}

sub-step : (m r : ℕ) → r < m → m - r ≡ suc (m - (r + 1))
sub-step m r h = omega arith

suc-sub-one : (n : ℕ) → suc n - 1 ≡ n
suc-sub-one n = omega arith

module _ {X S : Type 0} (F : Parts X S) (M : ℕ) where
  -- how the unbroken fit ends from what round r's search leaves, and from what its solver leaves
  from_search : ℕ → Progress (End X S) (Reached S) → End X S
  from_search r m = close (then m (many_rounds F (M - (r + 1)) (r + 1)))

  from_solve : ℕ → Progress (End X S) (Reached S) → End X S
  from_solve r m = from_search r (then m (line_search F F.trials))

  -- how the unbroken fit ends from a stage on
  pub finish : State S → End X S
  finish (opening r c s) = close (many_rounds F (M - r) r (reached c s))
  finish (solving r k c s) = from_solve r (solve F (suc F.solves - k) k (reached c s))
  finish (searching r j c s) = from_search r (line_search F (F.trials - j) (reached c s))

  -- a step leads to the end that was to come
  leads-cases : (u : End X S) (x : State S) → Pending M x → StageIn F M x → finish x ≡ u → Cases F M (λ y. finish y ≡ u) (λ e. e ≡ u) x
  unfolding Pending StageIn finish from_solve from_search close then many_rounds one_round open_round solve line_search
  leads-cases u (opening r c s) p w h =
      let g = rw (sub-step M r p) at h in
      record {
        on-ready = λ t q. rw (suc-sub-one F.solves) (rw (q, open_round) at g);
        on-done = λ t q. rw (q, open_round) at g;
        on-fails = λ x t q. rw (q, open_round) at g;
      }
  leads-cases u (solving r k c s) p w h =
      let l : k < suc F.solves = omega arith in
      let g = rw (sub-step (suc F.solves) k l) at h in
      record {
        on-more = λ t q m. rw (q, solve) at g;
        on-last = λ t q m. let z : suc F.solves ≤ k + 1 = omega arith in rw sub-zero (rw (q, solve, sub-eq-zero_of_le z) at g);
        on-stop = λ t q. rw sub-zero (rw (q, solve) at g);
      }
  leads-cases u (searching r j c s) p w h =
      let g = rw (sub-step F.trials j w.last) at h in
      record {
        on-accept = λ t q m. rw (q, line_search) at g;
        on-limit = λ t q m. rw (q, line_search, sub-eq-zero_of_le m) at g;
        on-halve = λ t q m. rw (q, line_search) at g;
        on-spent = λ t q m. rw (q, line_search, sub-eq-zero_of_le m) at g;
      }

  -- after n steps, and u is to come
  pub record Leads (u : End X S) (n : ℕ) (x : State S) : Type 0 where
    pub counted : Counted F M n x
    pub leads : finish x ≡ u

  pub start-leads : (s : S) → Leads (unbroken F M s) 0 (start s)
  unfolding finish unbroken
  start-leads s = record { counted = start-counted F M s; leads = rw sub-zero }

  -- A PAUSE COMES EARLY: in fewer steps than M rounds can take
  pub pause-early : (n : ℕ) (x : State S) → Counted F M n x → Pending M x → n < M * (1 + F.solves + F.trials)
  unfolding Pending StageIn counts_of made
  pause-early n (opening r c s) h p = omega (arith, mul-le-mul_right (1 + F.solves + F.trials) p)
  pause-early n (solving r k c s) h p = omega (arith, mul-le-mul_right (1 + F.solves + F.trials) h.within.inside)
  pause-early n (searching r j c s) h p = omega (arith, mul-le-mul_right (1 + F.solves + F.trials) h.within.inside)

  ended : (u : End X S) (n : ℕ) → M * (1 + F.solves + F.trials) ≤ n → (m : Progress (End X S) (State S)) →
      Always (Leads u n) (λ e. e ≡ u) m → Always (Pending M) Any m → m ≡ over u
  ended u n enough (over e) h p = ap over h
  ended u n enough (going x) h p = absurd (omega (arith, pause-early n x h.counted p))

  module _ (some-solves : 1 ≤ F.solves) (some-trials : 1 ≤ F.trials) where
    step-leads : (u : End X S) (n : ℕ) (x : State S) → Pending M x → Leads u n x → Always (Leads u (suc n)) (λ e. e ≡ u) (step F M x)
    step-leads u n x p h =
        always-both (Counted F M (suc n)) (λ y. finish y ≡ u) (Leads u (suc n)) (EndWithin F M) (λ e. e ≡ u) (λ e. e ≡ u) (step F M x)
        (λ y c l. record { counted = c; leads = l }) (λ e w l. l)
        (step_counts F M some-solves some-trials n x p h.counted)
        (step-cases F M (λ y. finish y ≡ u) (λ e. e ≡ u) x (leads-cases u x p h.counted.within h.leads))

    -- ONE CALL leaves the end to come as it was
    pub call-leads : (u : End X S) (b n : ℕ) (x : State S) → Leads u n x → Always (Leads u (n + b)) (λ e. e ≡ u) (call F M b x)
    unfolding finish close many_rounds
    call-leads u = call-rule F M (Leads u) (λ e. e ≡ u) (λ n r c s l h. rw (sub-eq-zero_of_le l) at h.leads) (step-leads u)

    -- WHATEVER THE BUDGETS, an end is the unbroken fit's
    pub ends-as-unbroken : (b : ℕ) (bs : List ℕ) (s : S) →
        Always (Leads (unbroken F M s) (total (b ∷ bs))) (λ e. e ≡ unbroken F M s) (calls (call F M) (b ∷ bs) (start s))
    ends-as-unbroken b bs s =
        rw (calls-are-one F M b bs (start s)) (rw zero-add at (call-leads (unbroken F M s) (total (b ∷ bs)) 0 (start s) (start-leads s)))

    -- THE PAUSE THEOREM
    pub paused-is-unbroken : (b : ℕ) (bs : List ℕ) (s : S) → M * (1 + F.solves + F.trials) ≤ total (b ∷ bs) →
        calls (call F M) (b ∷ bs) (start s) ≡ over (unbroken F M s)
    paused-is-unbroken b bs s enough =
        ended (unbroken F M s) (total (b ∷ bs)) enough (calls (call F M) (b ∷ bs) (start s)) (ends-as-unbroken b bs s)
        (pending-at-pauses F M b bs (start s))

    -- what holds at the end of every first call holds of the unbroken fit
    pub of-unbroken : (I : ℕ → State S → Type 0) (P : End X S → Type 0) (s : S) →
        ((b : ℕ) → Always (I b) P (call F M b (start s))) → P (unbroken F M s)
    unfolding total
    of-unbroken I P s h =
        let b = M * (1 + F.solves + F.trials) in
        rw (sym (calls-are-one F M b [] (start s)), paused-is-unbroken b [] s (omega arith)) at (h (total (b ∷ [])))

    -- THE COUNTS OF THE UNBROKEN FIT
    pub unbroken-counts : (s : S) → EndWithin F M (unbroken F M s)
    unbroken-counts s =
        of-unbroken (λ b. Counted F M (0 + b)) (EndWithin F M) s (λ b. call-counts F M some-solves some-trials b 0 (start s) (start-counted F M s))
