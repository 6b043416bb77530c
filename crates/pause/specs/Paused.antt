-- The paused machine: one step of a stage, and a call that has a budget of steps. Assumes nothing.
use Rattle.std.specs.Prelude.{ℕ, ◌+◌, ◌<◌, cond, ltb}
use Rattle.pause.specs.Progress.{Progress, over, going, then, run}
use Rattle.pause.specs.Parts.{Opened, ready, done, fails, Turned, more, stop, Tried, accept, halve, Parts}
use Rattle.pause.specs.Parts.{Counts, none, round+, solver+, trial+, converged, limit, failed, End, end}

-- round r is to be opened; in round r the solver's k-th round is to be made; in round r the search has made j trials
pub data State (S : Type 0) : Type 0 where
  opening : ℕ → Counts → S → State S
  solving : ℕ → ℕ → Counts → S → State S
  searching : ℕ → ℕ → Counts → S → State S

unfoldable pub counts_of : {S : Type 0} → State S → Counts
counts_of (opening r c s) = c
counts_of (solving r k c s) = c
counts_of (searching r j c s) = c

unfoldable pub data_of : {S : Type 0} → State S → S
data_of (opening r c s) = s
data_of (solving r k c s) = s
data_of (searching r j c s) = s

-- the rounds opened, by the stage
unfoldable pub opened_by : {S : Type 0} → State S → ℕ
opened_by (opening r c s) = r
opened_by (solving r k c s) = r + 1
opened_by (searching r j c s) = r + 1

-- a step is to be taken
unfoldable pub Pending : {S : Type 0} → ℕ → State S → Type 0
Pending M (opening r c s) = r < M
Pending M (solving r k c s) = Unit {0}
Pending M (searching r j c s) = Unit {0}

-- round r is to be opened, unless M rounds are made
unfoldable pub next_round : {X S : Type 0} → ℕ → ℕ → Counts → S → Progress (End X S) (State S)
next_round M r c s = cond (ltb r M) (going (opening r c s)) (over (end limit c s))

-- what follows an opening, its counts c already raised; likewise below
unfoldable pub after_opening : {X S : Type 0} → ℕ → Counts → Opened X S → Progress (End X S) (State S)
after_opening r c (ready s) = going (solving r 1 c s)
after_opening r c (done s) = over (end converged c s)
after_opening r c (fails x s) = over (end (failed x) c s)

module _ {X S : Type 0} (F : Parts X S) where
  -- where the solver stops, or has made all its rounds, the search begins in the same step
  unfoldable pub after_turn : ℕ → ℕ → Counts → Turned S → Progress (End X S) (State S)
  after_turn r k c (more s) = cond (ltb k F.solves) (going (solving r (k + 1) c s)) (going (searching r 0 c (F.aim s)))
  after_turn r k c (stop s) = going (searching r 0 c (F.aim s))

  module _ (M : ℕ) where
    -- an accepted trial ends the round; the last one that is not accepted fails
    unfoldable pub after_trial : ℕ → ℕ → Counts → Tried S → Progress (End X S) (State S)
    after_trial r j c (accept s) = next_round M (r + 1) c s
    after_trial r j c (halve s) = cond (ltb (j + 1) F.trials) (going (searching r (j + 1) c s)) (over (end (failed F.unaccepted) c s))

    -- one step: a round's opening, a solver round, or a trial
    unfoldable pub step : State S → Progress (End X S) (State S)
    step (opening r c s) = after_opening r (round+ c) (F.opens r s)
    step (solving r k c s) = after_turn r k (solver+ c) (F.turns k s)
    step (searching r j c s) = after_trial r j (trial+ c) (F.tries s)

    -- before its first step a call ends a fit that has no step to take: a fresh one with M = 0
    unfoldable pub settle : State S → Progress (End X S) (State S)
    settle (opening r c s) = next_round M r c s
    settle (solving r k c s) = going (solving r k c s)
    settle (searching r j c s) = going (searching r j c s)

    -- a call with budget b
    unfoldable pub call : ℕ → State S → Progress (End X S) (State S)
    call b x = then (settle x) (run step b)

-- a fresh fit
abbrev pub start : {S : Type 0} → S → State S
start s = opening 0 none s
