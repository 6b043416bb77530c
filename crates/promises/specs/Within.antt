-- What is promised of weights and counts at every pause and where a fit ends. Definitions only.
use Rattle.std.specs.Prelude.{◌≡◌, true, List, ℕ, ◌+◌, ◌*◌, ◌<◌, ◌≤◌, T, Float}
use Rattle.std.specs.Float.Ieee.Scale.{finite}
use Rattle.std.specs.Float.Ieee.Positive.{positive}
use Rattle.arrays.specs.Part.{part}
use Rattle.arrays.specs.Sums.{◌!◌}
use Rattle.settings.specs.declared.Settings.{Settings}
use Rattle.layout.specs.Slots.{off}
use Rattle.layout.specs.Slots.{Slot.W, Slot.U}
use Rattle.layout.specs.Need.{sizes_of}
use Rattle.bound.specs.Guarded.{Inside}
use Rattle.smartcore.specs.LassoOptimizer.{Counts, Fitted, converged, limit, failed, Point}
use Rattle.records.specs.declared.Paused.{Paused}
use Rattle.records.specs.Records.{possible_of}

-- each of p weights is finite and strictly within its finite bound, and t is finite and positive
pub record Within (p : ℕ) (t : Float) (ws us : List Float) : Type 0 where
  pub weights : (i : ℕ) → i < p → Inside (ws ! i) (us ! i)
  pub barrier : T (finite t) × T (positive t)

-- at a pause the weights and their bounds stand in the scratch, and t in the record
abbrev pub PauseWithin : ℕ → ℕ → Settings → Paused → List Float → Type 0
PauseWithin n p st a s = Within p a.scalars.t (part s (off (sizes_of n p st) W) p) (part s (off (sizes_of n p st) U) p)

-- where the rounds end with weights, before they are rescaled
abbrev pub EndWithin : ℕ → Fitted Point → Type 0
EndWithin p (converged c o) = Within p o.t o.w o.u
EndWithin p (limit c o) = Within p o.t o.w o.u
EndWithin p (failed k c) = Unit {0}

-- as many steps were made as were given, and the record passes 9: its counts are within their bounds
pub record CountedAt (M given : ℕ) (a : Paused) : Type 0 where
  pub steps : a.counts.rounds.0 + a.counts.solver.0 + a.counts.trials.0 ≡ given
  pub passes : possible_of M a ≡ true

-- at most M openings, and for each at most 4,999 solver rounds and 100 trials
pub record CountsWithin (M : ℕ) (c : Counts) : Type 0 where
  pub openings : c.openings ≤ M
  pub solver : c.solver ≤ 4999 * c.openings
  pub trials : c.trials ≤ 100 * c.openings
