-- The unbroken fit: nested loops of rounds, solve and search that count as they go, with no stage, step or budget. Assumes nothing.
use Rattle.std.specs.Prelude.{ℕ, zero, suc, ◌+◌}
use Rattle.pause.specs.Progress.{Progress, over, going, then}
use Rattle.pause.specs.Parts.{ready, done, fails, more, stop, accept, halve, Parts}
use Rattle.pause.specs.Parts.{Counts, none, round+, solver+, trial+, converged, limit, failed, End, end}

-- the data with the counts so far
pub data Reached (S : Type 0) : Type 0 where
  reached : Counts → S → Reached S

module _ {X S : Type 0} (F : Parts X S) where
  -- round r opens
  unfoldable pub open_round : ℕ → Reached S → Progress (End X S) (Reached S)
  open_round r (reached c s) =
      elim (F.opens r s) [
        | ready t ↦ going (reached (round+ c) t)
        | done t ↦ over (end converged (round+ c) t)
        | fails x t ↦ over (end (failed x) (round+ c) t)
      ]

  -- at most f solver rounds, from the k-th on
  unfoldable pub solve : ℕ → ℕ → Reached S → Progress (End X S) (Reached S)
  solve zero k (reached c s) = going (reached c (F.aim s))
  solve (suc f) k (reached c s) =
      elim (F.turns k s) [
        | more t ↦ solve f (k + 1) (reached (solver+ c) t)
        | stop t ↦ going (reached (solver+ c) (F.aim t))
      ]

  -- at most f trials
  unfoldable pub line_search : ℕ → Reached S → Progress (End X S) (Reached S)
  line_search zero (reached c s) = over (end (failed F.unaccepted) c s)
  line_search (suc f) (reached c s) =
      elim (F.tries s) [
        | accept t ↦ going (reached (trial+ c) t)
        | halve t ↦ line_search f (reached (trial+ c) t)
      ]

  unfoldable pub one_round : ℕ → Reached S → Progress (End X S) (Reached S)
  one_round r w = then (open_round r w) (λ v. then (solve F.solves 1 v) (line_search F.trials))

  -- f rounds, from the r-th on
  unfoldable pub many_rounds : ℕ → ℕ → Reached S → Progress (End X S) (Reached S)
  many_rounds zero r w = going w
  many_rounds (suc f) r w = then (one_round r w) (many_rounds f (r + 1))

-- what has made all its rounds ends as limit
unfoldable pub close : {X S : Type 0} → Progress (End X S) (Reached S) → End X S
close (over e) = e
close (going (reached c s)) = end limit c s

-- the fit of at most M rounds
unfoldable pub unbroken : {X S : Type 0} → Parts X S → ℕ → S → End X S
unbroken F M s = close (many_rounds F M 0 (reached none s))
