-- One resuming call on what an accepted start or a pause left. Assumes nothing.
use Rattle.refusal.specs.declared.Refusal.{Refusal}
use Rattle.std.specs.Prelude.{Result, ⊤, Ok, Err}
use Prim.Native.Nat.{ℕ, zero, suc, ◌+◌, ◌*◌, ◌<◌, ◌≤◌}
use native.Mathlib.Omega.{arith}
use mathlib.Core.Path.{◌≡◌, refl, ap, sym, ◌∙◌}
use mathlib.Core.Bool.{Bool, true}
use mathlib.Core.List.{List}
use lib.Dec.{lit≤}
use lib.ListN.{length}
use lib.Ieee.{Float}
use borrow.Author.Tests.{lt-ltb}
use Rattle.refusal.specs.declared.Failure.{Failure}
use Rattle.settings.specs.declared.Settings.{Settings}
use Rattle.settings.specs.Settings.{terms_of}
use Rattle.settings.proofs.Laws.{allowed-says}
use Rattle.layout.specs.declared.Sizes.{Sizes}
use Rattle.layout.specs.Slots.{Slot, Has, size, rest, flatly}
use Rattle.layout.proofs.Slots.{start as first-has, vars-of, rest_of, length-of}
use Rattle.layout.specs.Need.{sizes_of}
use Rattle.bound.proofs.Lambda.{lambda-unsigned}
use Rattle.pause.specs.Progress.{over, going, Always}
use Rattle.pause.specs.Parts.{Parts, none, End, end, converged, limit, failed}
use Rattle.pause.specs.Paused.{State, counts_of, data_of, Pending, call, start}
use Rattle.pause.specs.Invariant.{Keeps, Kept, EndKept}
use Rattle.pause.proofs.Budgets.{call-pends}
use Rattle.pause.proofs.Unbroken.{Leads, start-leads, call-leads, pause-early}
use Rattle.pause.proofs.Kept.{start-kept, call_kept}
use Rattle.lasso_optimizer.specs.Data.{Data, held, store_of}
use Rattle.lasso_optimizer.specs.Fit.{parts, fresh, optimized}
use Rattle.pausing.specs.Kept.{KeptData, SizedData, Proper}
use Rattle.pausing.proofs.Keeps.{parts-keep}
use Rattle.pausing.proofs.Sized.{sizes-keep}
use Rattle.pausing.proofs.Theorems.{first-kept}
use Rattle.records.specs.declared.Paused.{Paused}
use Rattle.records.specs.declared.Stage.TheVariants.{Opening}
use Rattle.records.specs.Record.{paused_of, paused_at}
use Rattle.stages.specs.Stage.{how_of}
use Rattle.records.proofs.Back.{state-back}
use Rattle.checks.specs.Checks.{limits_of}
use Rattle.layout.proofs.Laws.{sizes-known}
use Rattle.checks.proofs.Laws.{accepted, accepted-room}
use Rattle.records.specs.Records.{possible_of, possible_at, counted_of}
use Rattle.records.proofs.Laws.{own-possible}
use Rattle.beginning.specs.Start.{start_store}
use Rattle.beginning.proofs.Sized.{start-sized}
use Rattle.elastic_net.specs.declared.Resumed.{Resumed}
use Rattle.elastic_net.specs.ElasticNet.{pending, said, Outcome, outcome, end_outcome, ending, shown}
use Rattle.unbroken_fit.specs.Unbroken.{fit_of}
use Rattle.promises.specs.Chain.{Starts, Resumes}
use Rattle.promises.specs.Refused.{first_of, start_check, resume_check}
use Rattle.promises.proofs.Refused.{start-refused, start-accepted, resume-accepted}
use Rattle.promises.proofs.Fresh.{start-fresh}

-- the fit's own parts, and the data that it starts from
abbrev pub parts_of : ℕ → ℕ → List Float → Settings → Parts Failure Data
parts_of n p x st = parts (sizes_of n p st) (terms_of st n) st.tol x

abbrev pub first_data : ℕ → ℕ → List Float → List Float → Settings → Data
first_data n p x y st =
    held (fresh (sizes_of n p st).p (terms_of st n).lambda) (start_store (sizes_of n p st) st.normalise (terms_of st n) x y)

pub some-solves : (n p : ℕ) (x : List Float) (st : Settings) → 1 ≤ (parts_of n p x st).solves
unfolding parts
some-solves n p x st = lit≤ tt

pub some-trials : (n p : ℕ) (x : List Float) (st : Settings) → 1 ≤ (parts_of n p x st).trials
unfolding parts
some-trials n p x st = lit≤ tt

-- sizes of all vectors, as an invariant of the data and of the store
to-data : (sh : Sizes) (k : ℕ) (d : Data) → ((s : Slot) → length (store_of d s) ≡ size sh s) → SizedData sh k d
to-data sh k (held a v) h = h

of-data : (sh : Sizes) (k : ℕ) (d : Data) → SizedData sh k d → (s : Slot) → length (store_of d s) ≡ size sh s
of-data sh k (held a v) h = h

proper : (n p : ℕ) (st : Settings) → Proper (sizes_of n p st)
proper n p st =
    let k = sizes-known n p st in
    record { all = rw (k.rows, k.columns) k.all; stored = k.stored }

first_fine : (j k : Result ⊤ Refusal) → first_of j k ≡ Ok tt → j ≡ Ok tt
first_fine (Ok tt) k h = refl
first_fine (Err r) k h = h

-- a fresh record passes 9, also where M is 0
fresh-passes : (M : ℕ) (d : Data) → possible_of M (paused_of (start d)) ≡ true
unfolding possible_of possible_at counted_of paused_of
fresh-passes zero d = refl
fresh-passes (suc M) d = rw (lt-ltb 0 (suc M) (omega arith))

-- an end is not pending
not-pending : (sh : Sizes) (normalise : Bool) (gamma : Float) (ys e : List Float) (u : End Failure Data) → (ending sh normalise gamma ys e u).answer ≡ pending → ⊥
unfolding ending end_outcome how_of
not-pending sh normalise gamma ys e (end converged c d) q = let z : ◌≡◌ {A = ℕ} 0 1 = cc in omega arith
not-pending sh normalise gamma ys e (end limit c d) q = let z : ◌≡◌ {A = ℕ} 0 1 = cc in omega arith
not-pending sh normalise gamma ys e (end (failed k) c d) q = let z : ◌≡◌ {A = ℕ} 0 1 = cc in omega arith

module _ (n p : ℕ) (x y : List Float) (st : Settings) where
  abbrev sh : Sizes
  sh = sizes_of n p st

  abbrev M : ℕ
  M = st.max_iter

  -- what a record and a scratch must have for a call to be made on them: they are of the state z, k steps were made, the end u is to come,
  -- e is the scratch's excess, 1 to 4 and 9 do not refuse, and the weights are within their bounds
  pub record Poised (u : End Failure Data) (e : List Float) (k : ℕ) (z : State Data) (a : Paused) (s : List Float) : Type 0 where
    pub is : a ≡ paused_of z
    pub holds : Has (sizes_of n p st) e (store_of (data_of z)) s
    pub leads : Leads (parts_of n p x st) st.max_iter u k z
    pub passes : possible_of st.max_iter (paused_of z) ≡ true
    pub fits : limits_of n p (length x) (length y) p st (length s) ≡ Ok tt
    pub within : Kept (KeptData (sizes_of n p st).p) z

  -- at settings that 3 does not refuse the parts keep the weights within their bounds
  pub parts_within : (room : ℕ) → limits_of n p (length x) (length y) p st room ≡ Ok tt → Keeps (KeptData (sizes_of n p st).p) (parts_of n p x st) st.max_iter
  parts_within room f = parts-keep sh (terms_of st n) x st.tol M (allowed-says st (accepted f).settings).max_iter (lambda-unsigned st n)

  module _ (u : End Failure Data) (e : List Float) (k : ℕ) (z : State Data) (a : Paused) (s : List Float) (g : Poised u e k z a s)
      (w : List Float) (l : length w ≡ p) (b : ℕ) (r : Resumed) (w' s' : List Float) (c : Resumes n p x y st a s w b r w' s') where
    shows : outcome r w' s' ≡ shown (sizes_of n p st) st.normalise (terms_of st n).gamma y e w (call (parts_of n p x st) st.max_iter b z)
    shows =
        let f : resume_check n p x y st a s w ≡ Ok tt = rw (l, g.fits, g.is, g.passes) refl in
        rw (g.is, rest_of sh g.holds, vars-of sh g.holds, state-back z) at (resume-accepted n p x y st a s w b r w' s' c f)

    goes : Always (Leads (parts_of n p x st) st.max_iter u (k + b)) (λ t. t ≡ u) (call (parts_of n p x st) st.max_iter b z)
    goes = call-leads (parts_of n p x st) M (some-solves n p x st) (some-trials n p x st) u b k z g.leads

    -- the sizes of all vectors, and the weights within their bounds
    sizes-stay : Always (Kept (SizedData (sizes_of n p st))) (EndKept (SizedData (sizes_of n p st))) (call (parts_of n p x st) st.max_iter b z)
    sizes-stay =
        call_kept (parts_of n p x st) M (SizedData sh) (sizes-keep sh (terms_of st n) st.tol x M (proper n p st)) b z
        (record { opened-all = g.within.opened-all; holds = to-data sh (counts_of z).rounds (data_of z) g.holds.sized })

    weights-stay : Always (Kept (KeptData (sizes_of n p st).p)) (EndKept (KeptData (sizes_of n p st).p)) (call (parts_of n p x st) st.max_iter b z)
    weights-stay = call_kept (parts_of n p x st) M (KeptData sh.p) (parts_within (length s) g.fits) b z g.within

    -- a call that ends, ends with u
    pub ended-with : (t : End Failure Data) → call (parts_of n p x st) st.max_iter b z ≡ over t
        → outcome r w' s' ≡ ending (sizes_of n p st) st.normalise (terms_of st n).gamma y e u
    unfolding shown
    ended-with t q =
        let h : t ≡ u = rw q at goes in
        rw (q, h) at shows

    -- and one that pauses is poised for the next, early, and says that it is pending
    module _ (t : State Data) (q : call (parts_of n p x st) st.max_iter b z ≡ going t) where
      leads-on : Leads (parts_of n p x st) st.max_iter u (k + b) t
      leads-on = rw q at goes

      pends : Pending st.max_iter t
      pends = rw q at (call-pends (parts_of n p x st) M b z)

      leaves : outcome r w' s' ≡ record { answer = pending; paused = paused_of t; weights = w; scratch = flatly (sizes_of n p st) (store_of (data_of t)) e }
      unfolding shown
      leaves = rw q at shows

      pub poised-next : Poised u e (k + b) t r.paused s'
      unfolding parts flatly
      poised-next =
          let i : Kept (SizedData sh) t = rw q at sizes-stay in
          let h : Has sh e (store_of (data_of t)) s' = record { is = ap (λ (o : Outcome). o.scratch) leaves; sized = of-data sh (counts_of t).rounds (data_of t) i.holds } in
          let long : length s' ≡ length s = length-of sh h ∙ sym (length-of sh g.holds) in
          record {
            is = ap (λ (o : Outcome). o.paused) leaves;
            holds = h;
            leads = leads-on;
            passes = own-possible (parts_of n p x st) refl refl M (k + b) t leads-on.counted pends;
            fits = rw long g.fits;
            within = rw q at weights-stay;
          }

      pub early : k + b < st.max_iter * 5100
      unfolding parts
      early = pause-early (parts_of n p x st) M (k + b) t leads-on.counted pends

      pub says-pending : said r.answer ≡ pending
      says-pending = ap (λ (o : Outcome). o.answer) leaves

    pub says-ended : (t : End Failure Data) → call (parts_of n p x st) st.max_iter b z ≡ over t → said r.answer ≡ pending → ⊥
    says-ended t q h = not-pending sh st.normalise (terms_of st n).gamma y e u (sym (ap (λ (o : Outcome). o.answer) (ended-with t q)) ∙ h)

  -- AN ACCEPTED START poises the fit
  module _ (s s₁ : List Float) (a : Paused) (h : Starts n p x y st s (Ok a) s₁) where
    unrefused : start_check n p x y st s ≡ Ok tt
    unrefused = go (start_check n p x y st s) refl where
      go : (k : Result ⊤ Refusal) → start_check n p x y st s ≡ k → start_check n p x y st s ≡ Ok tt
      go (Ok tt) q = q
      go (Err r) q =
          let i : Ok a ≡ Err r = (start-refused n p x y st s (Ok a) s₁ h r q).0 in
          let z : ◌≡◌ {A = ℕ} 0 1 = cc in
          absurd (omega arith)

    pub start_fits : limits_of n p (length x) (length y) p st (length s) ≡ Ok tt
    start_fits = first_fine _ _ unrefused

    pub start-poised : Poised (fit_of n p x y st) (rest (sizes_of n p st) s) 0 (start (first_data n p x y st)) a s₁
    unfolding fit_of optimized paused_of data_of flatly
    start-poised =
        let o = start-accepted n p x y st s (Ok a) s₁ h unrefused in
        let i : Ok a ≡ Ok (paused_at Opening 0 none (fresh p (terms_of st n).lambda)) = o.0 in
        let j : a ≡ paused_at Opening 0 none (fresh p (terms_of st n).lambda) = cc in
        let v = start_store sh st.normalise (terms_of st n) x y in
        let k = accepted start_fits in
        let known = sizes-known n p st in
        let whole = proper n p st in
        let m : Has sh (rest sh s) v s₁ = record { is = o.1; sized = start-sized sh st.normalise (terms_of st n) x y whole.all whole.stored } in
        let long : length s₁ ≡ length s = length-of sh m ∙ sym (length-of sh (first-has sh s (accepted-room k))) in
        let f = start-fresh sh st.normalise (terms_of st n) x y in
        let few = (allowed-says st k.settings).max_iter in
        record {
          is = rw known.columns j;
          holds = m;
          leads = start-leads (parts_of n p x st) M (first_data n p x y st);
          passes = fresh-passes M (first_data n p x y st);
          fits = rw long start_fits;
          within = start-kept (KeptData sh.p) (first_data n p x y st)
              (first-kept sh (terms_of st n) st.tol x M v (rw known.columns k.some-columns) (rw known.columns k.columns) few (lambda-unsigned st n) f.zeros f.ones);
        }
