-- The record and the memory as a state of the machine, and back; what a step asks of a record. Definitions only.
use Rattle.std.specs.Prelude.{ℕ, ◌+◌, ◌*◌, ◌<◌, ◌≤◌, ◌≡◌}
use Rattle.layout.specs.Slots.{Store}
use Rattle.pause.specs.Parts.{Counts}
use Rattle.pause.specs.Paused.{State, opening, solving, searching}
use Rattle.lasso_optimizer.specs.declared.Scalars.{Scalars}
use Rattle.lasso_optimizer.specs.Data.{Data, held, scalars_of}
use Rattle.records.specs.declared.Counts.{Counts as CountsE}
use Rattle.records.specs.declared.Paused.{Paused}
use Rattle.records.specs.declared.Stage.{Stage}
use Rattle.records.specs.declared.Stage.TheVariants.{Opening, Solving, Searching, Ended}

-- the code's counts as the machine's, and back
abbrev pub counts_of : CountsE → Counts
counts_of c = record { rounds = c.rounds.0; solver = c.solver.0; trials = c.trials.0 }

abbrev pub counts_back : Counts → CountsE
counts_back c = record { rounds = record { 0 = c.rounds }; solver = record { 0 = c.solver }; trials = record { 0 = c.trials } }

-- an ended record has no state; it is refused before one is asked for
abbrev pub state_at : Stage → ℕ → Counts → Data → State Data
state_at Opening r c d = opening r c d
state_at (Solving k) r c d = solving r k c d
state_at (Searching j) r c d = searching r j c d
state_at Ended r c d = opening r c d

unfoldable pub state_of : Paused → Store → State Data
state_of r v = state_at r.stage r.round (counts_of r.counts) (held r.scalars v)

abbrev pub paused_at : Stage → ℕ → Counts → Scalars → Paused
paused_at g r c a = record { stage = g; round = r; counts = counts_back c; scalars = a }

-- a state as a record: its vectors are not in it, they stand in the scratch
unfoldable pub paused_of : State Data → Paused
paused_of (opening r c d) = paused_at Opening r c (scalars_of d)
paused_of (solving r k c d) = paused_at (Solving k) r c (scalars_of d)
paused_of (searching r j c d) = paused_at (Searching j) r c (scalars_of d)

-- what a step asks of a record of M rounds at most, and leaves: weaker than what the fit's own records keep, for a record that the caller made up
pub record OpeningIn (M r : ℕ) (c : Counts) : Type 0 where
  pub inside : r < M
  pub opened-all : c.rounds ≡ r
  pub solver-in : c.solver ≤ 4999 * r + 4999
  pub trials-in : c.trials ≤ 100 * r + 100

pub record SolvingIn (M r k : ℕ) (c : Counts) : Type 0 where
  pub inside : r < M
  pub first : 1 ≤ k
  pub last : k ≤ 4999
  pub opened-all : c.rounds ≡ r + 1
  pub solver-in : c.solver + 1 ≤ 4999 * r + 4999 + k
  pub trials-in : c.trials ≤ 100 * r + 100

pub record SearchingIn (M r j : ℕ) (c : Counts) : Type 0 where
  pub inside : r < M
  pub last : j < 100
  pub opened-all : c.rounds ≡ r + 1
  pub solver-in : c.solver ≤ 4999 * r + 9998
  pub trials-in : c.trials ≤ 100 * r + 100 + j

-- by the stage; an ended record may take no step
abbrev pub SaneAt : Stage → ℕ → ℕ → Counts → Type 0
SaneAt Opening M r c = OpeningIn M r c
SaneAt (Solving k) M r c = SolvingIn M r k c
SaneAt (Searching j) M r c = SearchingIn M r j c
SaneAt Ended M r c = ⊥

unfoldable pub Sane : ℕ → Paused → Type 0
Sane M r = SaneAt r.stage M r.round (counts_of r.counts)
