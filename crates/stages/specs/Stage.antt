-- What a step answers and leaves, of the state that the machine's step leads to. Definitions only.
use Rattle.refusal.specs.declared.Way.{Way}
use Rattle.std.specs.Prelude.{ℕ, ◌≡◌, List, Float, Err, Ok, Result}
use Rattle.refusal.specs.declared.Failure.{Failure}
use Rattle.refusal.specs.declared.Way.TheVariants.{Converged, Limit}
use Rattle.layout.specs.declared.Sizes.{Sizes}
use Rattle.layout.specs.Slots.{Has}
use Rattle.pause.specs.Progress.{Progress, over, going}
use Rattle.pause.specs.Parts.{Counts, How, converged, limit, failed, End, end}
use Rattle.pause.specs.Paused.{State, data_of}
use Rattle.lasso_optimizer.specs.declared.Scalars.{Scalars}
use Rattle.lasso_optimizer.specs.declared.Turned.{Turned}
use Rattle.lasso_optimizer.specs.declared.Turned.TheVariants.{More, Stop}
use Rattle.lasso_optimizer.specs.declared.Tried.{Tried}
use Rattle.lasso_optimizer.specs.declared.Tried.TheVariants.{Accept, Halve}
use Rattle.lasso_optimizer.specs.Data.{Data, store_of}
use Rattle.records.specs.declared.Stage.TheVariants.{Searching}
use Rattle.records.specs.Record.{counts_back, paused_at, paused_of}
use Rattle.stages.specs.declared.Stepped.{Stepped}
use Rattle.stages.specs.declared.Stepped.TheVariants.{Going, Over}

unfoldable pub how_of : How Failure → Result Way Failure
how_of converged = Ok Converged
how_of limit = Ok Limit
how_of (failed x) = Err x

-- what a step answers, and the data that it leaves
unfoldable pub answer : Progress (End Failure Data) (State Data) → Stepped
answer (over (end h c d)) = Over (how_of h) (counts_back c)
answer (going x) = Going (paused_of x)

unfoldable pub left_data : Progress (End Failure Data) (State Data) → Data
left_data (over (end h c d)) = d
left_data (going x) = data_of x

-- what an answer and the memory left say of the state that they are of
pub record Did (sh : Sizes) (e : List Float) (o : Progress (End Failure Data) (State Data)) (a : Stepped) (m : List Float) : Type 0 where
  pub is : a ≡ answer o
  pub left : Has sh e (store_of (left_data o)) m

-- the scalars in an answer of either kind, and what begins a search
abbrev pub turned_in : Turned → Scalars
turned_in (More w) = w
turned_in (Stop w) = w

abbrev pub tried_in : Tried → Scalars
tried_in (Accept w) = w
tried_in (Halve w) = w

abbrev pub search_from : ℕ → Counts → Scalars → Stepped
search_from r c a = Going (paused_at (Searching 0) r c a)
