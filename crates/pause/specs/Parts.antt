-- The parts of a fit over any data S and any type X of failures, its three counts, and how it ends. Assumes nothing.
use Rattle.std.specs.Prelude.{ℕ, ◌+◌}

-- what opening a round finds: the solver is ready; the fit is done, converged; it fails
pub data Opened (X S : Type 0) : Type 0 where
  ready : S → Opened X S
  done : S → Opened X S
  fails : X → S → Opened X S

-- what a solver round finds: more rounds are wanted; the solver stops
pub data Turned (S : Type 0) : Type 0 where
  more : S → Turned S
  stop : S → Turned S

-- what a search trial finds: it is accepted; the step is to be halved
pub data Tried (S : Type 0) : Type 0 where
  accept : S → Tried S
  halve : S → Tried S

-- rounds are numbered from 0, and in each at most `solves` solver rounds from 1 on and at most `trials` trials are made;
-- `aim` follows the last solver round, and a round none of whose trials is accepted fails as `unaccepted`
pub record Parts (X S : Type 0) : Type 0 where
  pub opens : ℕ → S → Opened X S
  pub turns : ℕ → S → Turned S
  pub aim : S → S
  pub tries : S → Tried S
  pub solves : ℕ
  pub trials : ℕ
  pub unaccepted : X

-- rounds opened, solver rounds made, trials made
pub record Counts : Type 0 where
  pub rounds : ℕ
  pub solver : ℕ
  pub trials : ℕ

abbrev pub none : Counts
none = record { rounds = 0; solver = 0; trials = 0 }

unfoldable pub round+ : Counts → Counts
round+ c = record { rounds = c.rounds + 1; solver = c.solver; trials = c.trials }

unfoldable pub solver+ : Counts → Counts
solver+ c = record { rounds = c.rounds; solver = c.solver + 1; trials = c.trials }

unfoldable pub trial+ : Counts → Counts
trial+ c = record { rounds = c.rounds; solver = c.solver; trials = c.trials + 1 }

-- the steps made in all
unfoldable pub made : Counts → ℕ
made c = c.rounds + c.solver + c.trials

-- how a fit ends
pub data How (X : Type 0) : Type 0 where
  converged : How X
  limit : How X
  failed : X → How X

-- how it ended, with what counts, and its data then
pub data End (X S : Type 0) : Type 0 where
  end : How X → Counts → S → End X S

abbrev pub how_of : {X S : Type 0} → End X S → How X
how_of (end h c s) = h
