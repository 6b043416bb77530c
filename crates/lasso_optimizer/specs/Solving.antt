-- A solver round inside a fit, and what follows the last one. Definitions only.
use Rattle.std.specs.Prelude.{Bool, ◌||◌, cond, ℕ, ◌*◌, eqb, Float}
use Rattle.std.specs.Float.Ieee.{lt, le}
use Rattle.numbers.specs.Constants.{one}
use Rattle.arrays.specs.Sums.{dot_of, sum_of}
use Rattle.settings.specs.declared.Terms.{Terms}
use Rattle.layout.specs.declared.Sizes.{Sizes}
use Rattle.layout.specs.Slots.{Store}
use Rattle.layout.specs.Slots.{Slot.U, Slot.F, Slot.DXU, Slot.GRAD, Slot.Z}
use Rattle.inner_solver.specs.Inner.{round_of, turn_store, turn_error}
use Rattle.line_search.specs.Search.{sumlogneg_of, phi_of}
use Rattle.pause.specs.Parts.{Turned, more, stop}
use Rattle.lasso_optimizer.specs.declared.Scalars.{Scalars}
use Rattle.lasso_optimizer.specs.Data.{Data, held, with_round, aimed}

-- an error above the tolerance is a miss, which is never forgotten
unfoldable pub missed_by : Scalars → Bool
missed_by a = a.missed || lt a.pcgtol a.error

-- the error decides
unfoldable pub turn_to : Scalars → Float → Float → Store → Turned Data
turn_to a error bkden v = cond (le error a.pcgtol) (stop (held (with_round a error bkden) v)) (more (held (with_round a error bkden) v))

module _ (sh : Sizes) where
  -- the k-th round, counted from 1
  unfoldable pub turns : ℕ → Data → Turned Data
  turns k (held a v) =
      turn_to a (turn_error sh (eqb k 1) a.bkden a.bnrm v) (round_of sh (eqb k 1) a.bkden v).bkden (turn_store sh (eqb k 1) a.bkden v)

  unfoldable pub gdx_of : Store → Float
  gdx_of v = dot_of (2 * sh.p) (v GRAD) (v DXU)

  module _ (tm : Terms) where
    -- phi at the current weights and bounds
    unfoldable pub phi_at : Float → Store → Float
    phi_at t v = phi_of tm.lambda t (dot_of sh.k (v Z) (v Z)) (sum_of sh.p (v U)) (sumlogneg_of (2 * sh.p) (v F))

    -- after the last round: the miss, phi, s = 1 and gdx
    unfoldable pub aim_by : Scalars → Store → Scalars
    aim_by a v = aimed a one (phi_at a.t v) (gdx_of v) (missed_by a)

    unfoldable pub aim : Data → Data
    aim (held a v) = held (aim_by a v) v
