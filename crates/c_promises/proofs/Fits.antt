-- Every scalar of a record that `start` or `resume` hands back is a value of binary64, so its words say the record again. Assumes nothing.
use Rattle.refusal.specs.declared.Refusal.{Refusal}
use Rattle.std.specs.Prelude.{Result, ⊤, Ok, Err}
use Prim.Native.Nat.{ℕ}
use native.Mathlib.Omega.{arith}
use mathlib.Core.Path.{◌≡◌, refl, ap}
use mathlib.Core.Bool.{Bool, true, false, cond}
use mathlib.Core.List.{List}
use lib.ListN.{length}
use lib.Ieee.{Float, binary64}
use lib.Ieee.Bits.{of_bits-fits}
use Rattle.refusal.specs.declared.Failure.{Failure}
use Rattle.refusal.specs.declared.Refusal.TheVariants.{Record}
use Rattle.settings.specs.declared.Settings.{Settings}
use Rattle.settings.specs.Settings.{terms_of}
use Rattle.layout.specs.declared.Sizes.{Sizes}
use Rattle.layout.specs.Slots.{Store, vars, rest}
use Rattle.layout.specs.Need.{sizes_of}
use Rattle.pause.specs.Progress.{Progress, over, going, Always}
use Rattle.pause.specs.Parts.{Counts, End, end}
use Rattle.pause.specs.Paused.{State, opening, solving, searching, counts_of, data_of, opened_by, call}
use Rattle.pause.specs.Invariant.{Kept, EndKept}
use Rattle.pause.proofs.Kept.{call_kept}
use Rattle.lasso_optimizer.specs.declared.Scalars.{Scalars}
use Rattle.lasso_optimizer.specs.Data.{Data, held}
use Rattle.doubles.specs.Fit.{Fit, FitData}
use Rattle.doubles.proofs.Keeps.{fresh-fit, fits-keep}
use Rattle.records.specs.declared.Counts.{Counts as CountsE}
use Rattle.records.specs.declared.Paused.{Paused}
use Rattle.records.specs.declared.Stage.{Stage}
use Rattle.records.specs.declared.Stage.TheVariants.{Opening, Solving, Searching, Ended}
use Rattle.records.specs.Record.{paused_of, state_at, state_of, SaneAt, Sane}
use Rattle.checks.specs.Checks.{limits_of}
use Rattle.records.specs.Records.{possible_of, spent_at, ended_of}
use Rattle.records.proofs.Laws.{possible-sane, spent-over}
use Rattle.elastic_net.specs.declared.Resumed.{Resumed}
use Rattle.elastic_net.specs.ElasticNet.{Outcome, end_outcome, ending, shown}
use Rattle.promises.specs.Chain.{Starts, Resumes, Chain, last, more}
use Rattle.promises.specs.Refused.{first_of, resume_check}
use Rattle.promises.proofs.Refused.{resume-refused, resume-accepted}
use Rattle.promises.proofs.Calls.{parts_of, start-poised}
use Rattle.c_words.specs.Words.{paused_from, paused_words}
use Rattle.c_words.proofs.Words.{record-round-trip}

-- ---- a record that is ended

ended-fit : (c : CountsE) → Fit (ended_of c).scalars
unfolding ended_of
ended-fit c = record {
  t = of_bits-fits binary64 _;
  s = of_bits-fits binary64 _;
  dual = of_bits-fits binary64 _;
  pcgtol = of_bits-fits binary64 _;
  bnrm = of_bits-fits binary64 _;
  bkden = of_bits-fits binary64 _;
  error = of_bits-fits binary64 _;
  phi = of_bits-fits binary64 _;
  gdx = of_bits-fits binary64 _;
}

-- ---- the record of a state, and the state of a record

paused-fit : (z : State Data) → Kept FitData z → Fit (paused_of z).scalars
unfolding paused_of data_of
paused-fit (opening r c (held a v)) h = h.holds
paused-fit (solving r k c (held a v)) h = h.holds
paused-fit (searching r j c (held a v)) h = h.holds

state-fit : (g : Stage) (M r : ℕ) (c : Counts) (a : Scalars) (v : Store) → SaneAt g M r c → Fit a → Kept FitData (state_at g r c (held a v))
unfolding counts_of data_of opened_by
state-fit Opening M r c a v h f = record { opened-all = h.opened-all; holds = f }
state-fit (Solving k) M r c a v h f = record { opened-all = h.opened-all; holds = f }
state-fit (Searching j) M r c a v h f = record { opened-all = h.opened-all; holds = f }
state-fit Ended M r c a v h f = absurd h

module _ (sh : Sizes) (normalise : Bool) (gamma : Float) (ys e w : List Float) where
  -- what is shown of a state that has it, or of any end
  shown-fit : (q : Progress (End Failure Data) (State Data)) → Always (Kept FitData) (EndKept FitData) q → Fit (shown sh normalise gamma ys e w q).paused.scalars
  unfolding shown ending end_outcome
  shown-fit (over (end h c d)) k = ended-fit _
  shown-fit (going z) k = paused-fit z k

-- ---- a call that 9 does not refuse

module _ (n p : ℕ) (x : List Float) (st : Settings) (a : Paused) (passes : possible_of st.max_iter a ≡ true) (f : Fit a.scalars) (v : Store) (b : ℕ) where
  call-fit : Always (Kept FitData) (EndKept FitData) (call (parts_of n p x st) st.max_iter b (state_of a v))
  unfolding state_of Sane EndKept
  call-fit = go (spent_at st.max_iter a) refl where
    go : (o : Bool) → spent_at st.max_iter a ≡ o → Always (Kept FitData) (EndKept FitData) (call (parts_of n p x st) st.max_iter b (state_of a v))
    go true o = rw (spent-over st.max_iter a (parts_of n p x st) o b v) f
    go false o =
        call_kept (parts_of n p x st) st.max_iter FitData (fits-keep (sizes_of n p st) (terms_of st n) st.tol x st.max_iter) b (state_of a v)
        (state-fit a.stage st.max_iter a.round _ a.scalars v (possible-sane st.max_iter a passes o) f)

-- ---- a call that nothing refuses

both-fine : (j : Result ⊤ Refusal) (b : Bool) → first_of j (cond b (Ok tt) (Err Record)) ≡ Ok tt → (j ≡ Ok tt) × (b ≡ true)
both-fine (Ok tt) true h = (refl, refl)
both-fine (Ok tt) false h = let z : ◌≡◌ {A = ℕ} 0 1 = cc in absurd (omega arith)
both-fine (Err r) b h = let z : ◌≡◌ {A = ℕ} 0 1 = cc in absurd (omega arith)

-- 1 to 4 do not, and 9 does not
pub record Allowed (n p : ℕ) (x y : List Float) (st : Settings) (a : Paused) (s w : List Float) : Type 0 where
  pub limits : limits_of n p (length x) (length y) (length w) st (length s) ≡ Ok tt
  pub passes : possible_of st.max_iter a ≡ true

pub allowed : (n p : ℕ) (x y : List Float) (st : Settings) (a : Paused) (s w : List Float) → resume_check n p x y st a s w ≡ Ok tt → Allowed n p x y st a s w
allowed n p x y st a s w e =
    let (l, q) = both-fine (limits_of n p (length x) (length y) (length w) st (length s)) (possible_of st.max_iter a) e in
    record { limits = l; passes = q }

module _ (n p : ℕ) (x y : List Float) (st : Settings) where
  -- A START'S RECORD
  pub start-fit : (s s₁ : List Float) (a : Paused) → Starts n p x y st s (Ok a) s₁ → Fit a.scalars
  unfolding paused_of
  start-fit s s₁ a h = rw (start-poised n p x y st s s₁ a h).is (fresh-fit _ _)

  -- A RESUMING CALL'S, of any record that has it and any memory, whatever the answer
  pub resume-fit : (a : Paused) (s w : List Float) (b : ℕ) (r : Resumed) (w' s' : List Float) → Resumes n p x y st a s w b r w' s' → Fit a.scalars
      → Fit r.paused.scalars
  resume-fit a s w b r w' s' c f = go (resume_check n p x y st a s w) refl where
    go : (k : Result ⊤ Refusal) → resume_check n p x y st a s w ≡ k → Fit r.paused.scalars
    go (Err q) e = rw (resume-refused n p x y st a s w b r w' s' c q e).paused f
    go (Ok tt) e =
        let sh = sizes_of n p st in
        let v = vars sh s in
        let i = ap (λ (t : Outcome). t.paused) (resume-accepted n p x y st a s w b r w' s' c e) in
        rw i
        (shown-fit sh st.normalise (terms_of st n).gamma y (rest sh s) w (call (parts_of n p x st) st.max_iter b (state_of a v))
        (call-fit n p x st a (allowed n p x y st a s w e).passes f v b))

  -- THE LAST OF ANY CALLS IN A ROW
  pub chain-fit : (bs : List ℕ) (a : Paused) (s : List Float) (r : Resumed) (w' s' : List Float) → Chain n p x y st bs a s r w' s' → Fit a.scalars
      → Fit r.paused.scalars
  chain-fit _ a s r w' s' (last {b} w l c stop) f = resume-fit a s w b r w' s' c f
  chain-fit _ a s r w' s' (more {b} {bs} w l r₁ w₁ s₁ c pend then) f = chain-fit bs r₁.paused s₁ r w' s' then (resume-fit a s w b r₁ w₁ s₁ c f)

  -- SO ITS WORDS SAY IT AGAIN
  pub start-again : (s s₁ : List Float) (a : Paused) → Starts n p x y st s (Ok a) s₁ → paused_from (paused_words a) ≡ a
  start-again s s₁ a h = record-round-trip a (start-fit s s₁ a h)

  pub resume-again : (a : Paused) (s w : List Float) (b : ℕ) (r : Resumed) (w' s' : List Float) → Resumes n p x y st a s w b r w' s' → Fit a.scalars
      → paused_from (paused_words r.paused) ≡ r.paused
  resume-again a s w b r w' s' c f = record-round-trip r.paused (resume-fit a s w b r w' s' c f)
