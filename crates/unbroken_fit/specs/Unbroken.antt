-- The parts of a fit in nested loops over the store, for an input; and how they end, in smartcore's terms. Definitions only.
use Rattle.std.specs.Prelude.{List, ℕ, Float}
use Rattle.refusal.specs.declared.Failure.{Failure}
use Rattle.refusal.specs.Refusal.{number_of, refused_by}
use Rattle.settings.specs.declared.Settings.{Settings}
use Rattle.settings.specs.Settings.{terms_of}
use Rattle.layout.specs.Slots.{Slot.W, Slot.U}
use Rattle.layout.specs.Need.{sizes_of}
use Rattle.pause.specs.Parts.{Counts as CountsP, converged as converged_p, limit as limit_p, failed as failed_p, End, end}
use Rattle.lasso_optimizer.specs.Data.{Data, scalars_of, store_of}
use Rattle.lasso_optimizer.specs.Fit.{optimized}
use Rattle.beginning.specs.Start.{start_store}
use Rattle.smartcore.specs.LassoOptimizer.{Counts, Fitted, converged, limit, failed, Point}

-- the nested loops, from the store that a start writes
unfoldable pub fit_of : ℕ → ℕ → List Float → List Float → Settings → End Failure Data
fit_of n p x y st =
    let sh = sizes_of n p st in
    let tm = terms_of st n in
    optimized sh tm st.tol x st.max_iter (start_store sh st.normalise tm x y)

unfoldable pub counts_of : CountsP → Counts
counts_of c = record { openings = c.rounds; solver = c.solver; trials = c.trials }

unfoldable pub point_of : Data → Point
point_of d = record { w = store_of d W; u = store_of d U; t = (scalars_of d).t }

-- an end in smartcore's terms
unfoldable pub told : End Failure Data → Fitted Point
told (end converged_p c d) = converged (counts_of c) (point_of d)
told (end limit_p c d) = limit (counts_of c) (point_of d)
told (end (failed_p x) c d) = failed (number_of (refused_by x)) (counts_of c)
