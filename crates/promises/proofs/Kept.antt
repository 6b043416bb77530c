-- What holds at every pause, whatever the budgets, and at the unbroken fit's end: weights and counts are within their bounds. Assumes nothing.
use Rattle.std.specs.Prelude.{Ok}
use Prim.Native.Nat.{ℕ}
use mathlib.Core.Path.{◌≡◌, refl, ap, sym, subst, ◌∙◌}
use mathlib.Core.List.{List}
use lib.Ieee.{Float}
use Rattle.refusal.specs.declared.Failure.{Failure}
use Rattle.arrays.specs.Part.{part}
use Rattle.settings.specs.declared.Settings.{Settings}
use Rattle.layout.specs.declared.Sizes.{Sizes}
use Rattle.layout.specs.Slots.{Store, off}
use Rattle.layout.proofs.Slots.{vars-of}
use Rattle.layout.specs.Slots.{Slot.W, Slot.U}
use Rattle.layout.specs.Need.{sizes_of}
use Rattle.bound.specs.Guarded.{Guarded}
use Rattle.bound.proofs.Barrier.{bounded-finite}
use Rattle.pause.specs.Progress.{total}
use Rattle.pause.specs.Parts.{converged, limit, failed as failed_p, made, End, end}
use Rattle.pause.specs.Paused.{State, opening, solving, searching, counts_of, data_of, start}
use Rattle.pause.specs.Bounds.{EndWithin as InBounds}
use Rattle.pause.specs.Invariant.{EndKept}
use Rattle.pause.proofs.Unbroken.{unbroken-counts}
use Rattle.pause.proofs.Kept.{unbroken-kept}
use Rattle.lasso_optimizer.specs.declared.Scalars.{Scalars}
use Rattle.lasso_optimizer.specs.Data.{Data, held, scalars_of, store_of}
use Rattle.lasso_optimizer.specs.Fit.{parts, optimized}
use Rattle.pausing.specs.Kept.{KeptData}
use Rattle.records.specs.declared.Paused.{Paused}
use Rattle.records.specs.Record.{counts_back, paused_of}
use Rattle.layout.proofs.Laws.{sizes-known}
use Rattle.elastic_net.specs.declared.Resumed.{Resumed}
use Rattle.elastic_net.specs.ElasticNet.{pending, said}
use Rattle.smartcore.specs.LassoOptimizer.{Fitted, Point}
use Rattle.smartcore.specs.ElasticNet.{optimize_fit}
use Rattle.unbroken_fit.specs.Unbroken.{fit_of, counts_of as counts_from, point_of, told}
use Rattle.unbroken_fit.proofs.Fit.{as-the-rust}
use Rattle.promises.specs.Chain.{Starts, Chain}
use Rattle.promises.specs.Outcome.{counts_in}
use Rattle.promises.specs.Within.{Within, PauseWithin, EndWithin, CountedAt, CountsWithin}
use Rattle.promises.proofs.Calls.{parts_of, first_data, some-solves, some-trials, parts_within, start_fits, start-poised}
use Rattle.promises.proofs.Pauses.{Pause, on-the-way}

-- ---- what a pause's record and data have of its state

of-kept : (p k : ℕ) (d : Data) → KeptData p k d → Guarded p k (scalars_of d).t (store_of d W) (store_of d U)
of-kept p k (held a v) h = h

scalars-are : (z : State Data) → (paused_of z).scalars ≡ scalars_of (data_of z)
unfolding paused_of data_of
scalars-are (opening r c d) = refl
scalars-are (solving r k c d) = refl
scalars-are (searching r j c d) = refl

counts-are : (z : State Data) → (paused_of z).counts ≡ counts_back (counts_of z)
unfolding paused_of counts_of
counts-are (opening r c d) = refl
counts-are (solving r k c d) = refl
counts-are (searching r j c d) = refl

within_of : (p k : ℕ) (t : Float) (ws us : List Float) → Guarded p k t ws us → Within p t ws us
within_of p k t ws us h = record { weights = h.inside; barrier = bounded-finite k t h.barrier }

module _ (n p : ℕ) (x y : List Float) (st : Settings) where
  abbrev sh : Sizes
  sh = sizes_of n p st

  -- p, not as the sizes have it
  of-columns : (t : Float) (s : List Float)
      → Within (sizes_of n p st).p t (part s (off (sizes_of n p st) W) (sizes_of n p st).p) (part s (off (sizes_of n p st) U) (sizes_of n p st).p)
      → Within p t (part s (off (sizes_of n p st) W) p) (part s (off (sizes_of n p st) U) p)
  of-columns t s h = subst (λ (q : ℕ). Within q t (part s (off sh W) q) (part s (off sh U) q)) (sizes-known n p st).columns h

  module _ (u : End Failure Data) (e : List Float) (k : ℕ) (a : Paused) (s : List Float) (g : Pause n p x y st u e k a s) where
    pause-within : PauseWithin n p st a s
    pause-within =
        let d = data_of g.state in
        let b : a.scalars ≡ scalars_of d = ap (λ (r : Paused). r.scalars) g.poised.is ∙ scalars-are g.state in
        let h : Within sh.p (scalars_of d).t (store_of d W) (store_of d U) = within_of _ _ _ _ _ (of-kept _ _ d g.poised.within.holds) in
        of-columns a.scalars.t s
        (subst (λ (c : Scalars). Within sh.p c.t (part s (off sh W) sh.p) (part s (off sh U) sh.p)) (sym b)
        (subst (λ (v : Store). Within sh.p (scalars_of d).t (v W) (v U)) (sym (vars-of sh g.poised.holds)) h))

    pause-counted : CountedAt st.max_iter k a
    unfolding made
    pause-counted = record {
      steps = rw (g.poised.is, counts-are g.state) g.poised.leads.counted.steps;
      passes = rw g.poised.is g.poised.passes;
    }

  module _ (s s₁ : List Float) (a : Paused) (h : Starts n p x y st s (Ok a) s₁) where
    module _ (bs : List ℕ) (r : Resumed) (w s₂ : List Float) (c : Chain n p x y st bs a s₁ r w s₂) (pend : said r.answer ≡ pending) where
      -- AT EVERY PAUSE the weights in the scratch are within their bounds, and t in the record is finite and positive
      pub pause-keeps : PauseWithin n p st r.paused s₂
      pause-keeps = pause-within _ _ _ r.paused s₂ (on-the-way n p x y st s s₁ a h bs r w s₂ c pend)

      -- and the counts add up to the budgets given
      pub pause-counts : CountedAt st.max_iter (total bs) r.paused
      pause-counts = pause-counted _ _ _ r.paused s₂ (on-the-way n p x y st s s₁ a h bs r w s₂ c pend)

    -- BEFORE THE FIRST CALL they are so in the scratch that the start leaves
    pub start-keeps : PauseWithin n p st a s₁
    start-keeps = pause-within _ _ _ a s₁ (record { state = start (first_data n p x y st); poised = start-poised n p x y st s s₁ a h })

    end_kept : EndKept (KeptData (sizes_of n p st).p) (fit_of n p x y st)
    unfolding fit_of optimized counts_of data_of
    end_kept =
        unbroken-kept (parts_of n p x st) st.max_iter (KeptData sh.p) (parts_within n p x y st _ (start_fits n p x y st s s₁ a h)) (some-solves n p x st)
        (some-trials n p x st) (first_data n p x y st) (start-poised n p x y st s s₁ a h).within.holds

    data-within : (k : ℕ) (d : Data) → KeptData (sizes_of n p st).p k d → Within p (scalars_of d).t (store_of d W) (store_of d U)
    data-within k d i =
        subst (λ (m : ℕ). Within m (scalars_of d).t (store_of d W) (store_of d U)) (sizes-known n p st).columns (within_of _ _ _ _ _ (of-kept _ _ d i))

    told-within : (u : End Failure Data) → EndKept (KeptData (sizes_of n p st).p) u → EndWithin p (told u)
    unfolding EndKept told point_of
    told-within (end converged c d) k = data-within c.rounds d k
    told-within (end limit c d) k = data-within c.rounds d k
    told-within (end (failed_p i) c d) k = tt

    -- WHERE SMARTCORE'S ROUNDS END with weights, before they are rescaled
    pub end-keeps : EndWithin p (optimize_fit n p x y st)
    end-keeps =
        subst (EndWithin p) (as-the-rust n p x y st) (told-within (fit_of n p x y st) end_kept)

  told-counts : (u : End Failure Data) → InBounds (parts_of n p x st) st.max_iter u → CountsWithin st.max_iter (counts_in (told u))
  unfolding InBounds told counts_from parts
  told-counts (end converged c d) k = record { openings = k.rounds-in; solver = k.solver-in; trials = k.trials-in }
  told-counts (end limit c d) k = record { openings = k.rounds-in; solver = k.solver-in; trials = k.trials-in }
  told-counts (end (failed_p i) c d) k = record { openings = k.rounds-in; solver = k.solver-in; trials = k.trials-in }

  -- THE COUNTS of a whole fit
  pub counts-within : CountsWithin st.max_iter (counts_in (optimize_fit n p x y st))
  unfolding fit_of optimized
  counts-within =
      subst (λ (o : Fitted Point). CountsWithin st.max_iter (counts_in o)) (as-the-rust n p x y st)
      (told-counts (fit_of n p x y st)
      (unbroken-counts (parts_of n p x st) st.max_iter (some-solves n p x st) (some-trials n p x st) (first_data n p x y st)))
