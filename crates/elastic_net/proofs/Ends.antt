-- What a refusal, a pause and an end show: a lemma for each return. Assumes nothing.
use Rattle.std.specs.Prelude.{Result, ⊤, Ok, Err}
use mathlib.Core.Path.{◌≡◌, refl, sym, ◌∙◌}
use mathlib.Core.Bool.{Bool, true, false}
use mathlib.Core.List.{List}
use Prim.Native.Nat.{ℕ}
use native.Mathlib.Omega.{arith}
use lib.ListN.{length}
use lib.Ieee.{Float}
use Rattle.arrays.specs.Part.{put}
use Rattle.arrays.proofs.Part.{put_all}
use Rattle.arrays.specs.Sums.{plus0}
use Rattle.arrays.specs.Vectors.{fill_of}
use Rattle.arrays.proofs.Lengths.{length-fill}
use Rattle.refusal.specs.declared.Refusal.{Refusal}
use Rattle.refusal.specs.declared.Refusal.TheVariants.{Record}
use Rattle.refusal.specs.declared.Way.{Way}
use Rattle.refusal.specs.declared.Way.TheVariants.{Limit}
use Rattle.refusal.specs.declared.Failure.{Failure}
use Rattle.refusal.specs.Refusal.{refused_by}
use Rattle.settings.specs.declared.Settings.{Settings}
use Rattle.settings.specs.declared.Terms.{Terms}
use Rattle.settings.specs.Settings.{terms_of}
use Rattle.layout.specs.declared.Sizes.{Sizes}
use Rattle.layout.specs.declared.Places.{Places}
use Rattle.layout.specs.Slots.{Has, Room, vars, rest, words}
use Rattle.layout.proofs.Slots.{start, flat-of, vars-of, rest_of}
use Rattle.layout.specs.Need.{sizes_of}
use Rattle.pause.specs.Progress.{Progress, over, going, run}
use Rattle.pause.specs.Parts.{Parts, none, End, end}
use Rattle.pause.specs.Paused.{State, step, call}
use Rattle.lasso_optimizer.specs.declared.Scalars.{Scalars}
use Rattle.lasso_optimizer.specs.Data.{Data}
use Rattle.lasso_optimizer.specs.Fit.{parts, fresh}
use Rattle.records.specs.declared.Counts.{Counts}
use Rattle.records.specs.declared.Paused.{Paused}
use Rattle.records.specs.declared.Stage.TheVariants.{Opening}
use Rattle.stages.specs.declared.Stepped.{Stepped}
use Rattle.stages.specs.declared.Stepped.TheVariants.{Going, Over}
use Rattle.records.specs.Record.{counts_back, paused_of, paused_at, state_of}
use Rattle.stages.specs.Stage.{Did, answer, left_data, how_of}
use Rattle.checks.specs.Checks.{limits_of, start_values}
use Rattle.records.specs.Records.{possible_of, spent_at, ended_of}
use Rattle.records.proofs.Laws.{spent-over, unspent-run}
use Rattle.beginning.specs.Start.{start_store}
use Rattle.ending.specs.End.{weights_of, intercept_of, gone}
use Rattle.elastic_net.specs.declared.Answer.TheVariants.{Pending as PendingA, Done as DoneA, Refused as RefusedA}
use Rattle.elastic_net.specs.declared.Resumed.{Resumed}
use Rattle.elastic_net.specs.ElasticNet.{Outcome, outcome, start_outcome, end_outcome, ending, shown, resume_of, start_of}

-- ---- the steps of a call

module _ (F : Parts Failure Data) (M : ℕ) (a : Paused) (b : ℕ) (sh : Sizes) (s : List Float) where
  pub stops : {l : Places} → spent_at M a ≡ true → Room sh l s → Did sh (rest sh s) (call F M b (state_of a (vars sh s))) (Over (Ok Limit) a.counts) s
  unfolding answer left_data how_of words
  stops o h = rw (spent-over M a F o b (vars sh s)) (record { is = refl; left = start sh s h.room })

  pub goes : {o : Stepped} {s' : List Float} → possible_of M a ≡ true → spent_at M a ≡ false → Did sh (rest sh s) (run (step F M) b (state_of a (vars sh s))) o s'
      → Did sh (rest sh s) (call F M b (state_of a (vars sh s))) o s'
  goes passes o d = rw (unspent-run M a passes F o b (vars sh s)) d

-- ---- an end

module _ (sh : Sizes) (normalise : Bool) (gamma : Float) (ys s : List Float) {h : Result Way Failure} (c : Counts) {b : Float} {r : Paused} {s' : List Float}
    (qb : b ≡ intercept_of sh normalise gamma ys (vars sh s)) (qr : r ≡ ended_of c) (qs : s' ≡ gone sh (rest sh s)) where
  pub is-done : {w : List Float} {way : Way} → w ≡ weights_of sh normalise gamma (vars sh s) → h ≡ Ok way
      → outcome (record { answer = DoneA b way c; paused = r }) w s' ≡ end_outcome sh normalise gamma ys (rest sh s) h c (vars sh s)
  unfolding end_outcome
  is-done qw e = rw (e, qb, qr, qs, qw)

  -- the weights w are overwritten by +0
  pub fails : (w : List Float) {w' : List Float} {x : Failure} {f : Refusal} → length w ≡ sh.p → w' ≡ put w 0 (fill_of plus0 sh.p)
      → h ≡ Err x → f ≡ refused_by x → outcome (record { answer = RefusedA f; paused = r }) w' s' ≡ end_outcome sh normalise gamma ys (rest sh s) h c (vars sh s)
  unfolding end_outcome
  fails w l qw e qf =
      let z = qw ∙ put_all w (fill_of plus0 sh.p) (length-fill plus0 sh.p ∙ sym l) in
      rw (e, qf, qr, qs, z)

-- ---- a call that is not refused

module _ {sh : Sizes} (normalise : Bool) (gamma : Float) (ys : List Float) {e : List Float} (w : List Float) where
  pending-shown : (o : Progress (End Failure Data) (State Data)) {k : Stepped} {m : List Float} → Did sh e o k m → (a : Paused) → k ≡ Going a
      → outcome (record { answer = PendingA; paused = a }) w m ≡ shown sh normalise gamma ys e w o
  unfolding shown answer left_data
  pending-shown (over (end h c d)) k a q =
      let i = k.is in
      let z : ◌≡◌ {A = ℕ} 0 1 = cc in
      absurd (omega arith)
  pending-shown (going x) k a q =
      let i : a ≡ paused_of x = cc k.is in
      rw (i, flat-of sh k.left)

  end-shown : (o : Progress (End Failure Data) (State Data)) {k : Stepped} {m : List Float} → Did sh e o k m → (h : Result Way Failure) (c : Counts) → k ≡ Over h c
      → end_outcome sh normalise gamma ys (rest sh m) h c (vars sh m) ≡ shown sh normalise gamma ys e w o
  unfolding shown answer left_data ending
  end-shown (going x) k h c q =
      let i = k.is in
      let z : ◌≡◌ {A = ℕ} 0 1 = cc in
      absurd (omega arith)
  end-shown (over (end h' c' d)) k h c q =
      let i : h ≡ how_of h' = cc k.is in
      let j : c ≡ counts_back c' = cc k.is in
      rw (i, j, rest_of sh k.left, vars-of sh k.left)

-- what it shows of an input, a record, scratch and weights, and a budget
abbrev carried : ℕ → ℕ → List Float → List Float → Settings → Paused → List Float → List Float → ℕ → Outcome
carried n p x y st a s w b =
    let sh = sizes_of n p st in
    let tm = terms_of st n in
    shown sh st.normalise tm.gamma y (rest sh s) w (call (parts sh tm st.tol x) st.max_iter b (state_of a (vars sh s)))

module _ (n p : ℕ) (x y : List Float) (st : Settings) (a : Paused) (s w : List Float) (b : ℕ) {sh : Sizes} {tm : Terms}
    (qs : sh ≡ sizes_of n p st) (qt : tm ≡ terms_of st n) {o : Stepped} {s₁ : List Float} (d : Did sh (rest sh s) (call (parts sh tm st.tol x) st.max_iter b (state_of a (vars sh s))) o s₁) where
  pub paused : {next r : Paused} {s₂ : List Float} → o ≡ Going next → s₂ ≡ s₁ → r ≡ next
      → outcome (record { answer = PendingA; paused = r }) w s₂ ≡ carried n p x y st a s w b
  paused q e k = rw (← qs, ← qt, e, k) (pending-shown st.normalise tm.gamma y w _ d _ q)

  pub ends : (r : Resumed) {h : Result Way Failure} {c : Counts} {w' s' : List Float} → o ≡ Over h c
      → outcome r w' s' ≡ end_outcome sh st.normalise tm.gamma y (rest sh s₁) h c (vars sh s₁)
      → outcome r w' s' ≡ carried n p x y st a s w b
  ends r q k = rw (← qs, ← qt) (k ∙ end-shown st.normalise tm.gamma y w _ d _ _ q)

-- ---- a resuming call, k being what 1 to 4 say

module _ (n p : ℕ) (x y : List Float) (st : Settings) (a : Paused) (s w : List Float) (b : ℕ) {k : Result ⊤ Refusal}
    (q : k ≡ limits_of n p (length x) (length y) (length w) st (length s)) where
  pub refused : {r : Refusal} → k ≡ Err r → outcome (record { answer = RefusedA r; paused = a }) w s ≡ resume_of n p x y st a s w b
  unfolding resume_of
  refused e = rw (sym q ∙ e)

  pub refused-record : k ≡ Ok tt → possible_of st.max_iter a ≡ false → outcome (record { answer = RefusedA Record; paused = a }) w s ≡ resume_of n p x y st a s w b
  unfolding resume_of
  refused-record e h = rw (sym q ∙ e, h)

  pub let_through : (u : Resumed) {w' s' : List Float} → k ≡ Ok tt → possible_of st.max_iter a ≡ true
      → outcome u w' s' ≡ carried n p x y st a s w b
      → outcome u w' s' ≡ resume_of n p x y st a s w b
  unfolding resume_of
  let_through u e h f = rw (sym q ∙ e, h) f

-- ---- a start

module _ (n p : ℕ) (x y : List Float) (st : Settings) (s : List Float) {k : Result ⊤ Refusal}
    (q : k ≡ limits_of n p (length x) (length y) p st (length s)) where
  module _ (e : k ≡ Ok tt) {j : Result ⊤ Refusal} (t : j ≡ start_values x y n p st.normalise) where
    pub starts : {sh : Sizes} {tm : Terms} {m : List Float} {f : Scalars} {u : Paused} → j ≡ Ok tt → sh ≡ sizes_of n p st → tm ≡ terms_of st n
        → Has sh (rest sh s) (start_store sh st.normalise tm x y) m → f ≡ fresh p tm.lambda → u ≡ paused_at Opening 0 none f
        → start_outcome (Ok u) m ≡ start_of n p x y st s
    unfolding start_of
    starts {sh} g qs qt h qf qu = rw (sym q ∙ e, sym t ∙ g, ← qs, ← qt, qu, qf, flat-of sh h)
