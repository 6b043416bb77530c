-- From what a part did to what the step does: a lemma for each return of the code. Assumes nothing.
use Rattle.std.specs.Prelude.{Err, Ok}
use Prim.Native.Nat.{ℕ, ◌+◌, ◌<◌, ◌≤◌}
use borrow.Author.Tests.{lt-ltb, le-ltb}
use mathlib.Core.Path.{◌≡◌, refl, ap, ◌∙◌}
use mathlib.Core.Bool.{Bool, true, false, cond}
use mathlib.Core.List.{List}
use lib.Dec.{ltb}
use lib.Ieee.{Float}
use Rattle.refusal.specs.declared.Failure.{Failure}
use Rattle.refusal.specs.declared.Failure.TheVariants.{Search}
use Rattle.refusal.specs.declared.Way.TheVariants.{Converged, Limit}
use Rattle.pause.specs.Progress.{Progress}
use Rattle.pause.specs.Parts.{Opened, ready, done, fails, Turned, more, stop, Tried, accept, halve}
use Rattle.pause.specs.Parts.{Counts, round+, solver+, trial+, End}
use Rattle.pause.specs.Paused.{State, opening, solving, searching, data_of, next_round, after_opening, after_turn, after_trial, step}
use Rattle.settings.specs.declared.Terms.{Terms}
use Rattle.layout.specs.declared.Sizes.{Sizes}
use Rattle.layout.specs.Slots.{Store, vars}
use Rattle.layout.proofs.Slots.{vars-of}
use Rattle.lasso_optimizer.specs.declared.Scalars.{Scalars}
use Rattle.lasso_optimizer.specs.declared.Opened.{Opened as OpenedE}
use Rattle.lasso_optimizer.specs.declared.Opened.TheVariants.{Ready, Done, Failed}
use Rattle.lasso_optimizer.specs.declared.Turned.{Turned as TurnedE}
use Rattle.lasso_optimizer.specs.declared.Turned.TheVariants.{More, Stop}
use Rattle.lasso_optimizer.specs.declared.Tried.{Tried as TriedE}
use Rattle.lasso_optimizer.specs.declared.Tried.TheVariants.{Accept, Halve}
use Rattle.lasso_optimizer.specs.Data.{Data, held}
use Rattle.lasso_optimizer.specs.Opening.{opens}
use Rattle.lasso_optimizer.specs.Solving.{turns, aim, aim_by}
use Rattle.lasso_optimizer.specs.Trial.{tries}
use Rattle.lasso_optimizer.specs.Fit.{parts, opened_res, opened_data, DidOpen, turned_res, turned_data, DidTurn, tried_res, tried_data, DidTry}
use Rattle.records.specs.declared.Stage.TheVariants.{Opening, Solving, Searching}
use Rattle.stages.specs.declared.Stepped.{Stepped}
use Rattle.stages.specs.declared.Stepped.TheVariants.{Going, Over}
use Rattle.records.specs.Record.{paused_at, counts_back, paused_of}
use Rattle.stages.specs.Stage.{Did, search_from, turned_in, tried_in, answer, left_data, how_of}

-- another way to say the same answer
told : {sh : Sizes} {e : List Float} {o : Progress (End Failure Data) (State Data)} {a a' : Stepped} {m : List Float} → Did sh e o a m → a' ≡ a → Did sh e o a' m
told d q = record { is = q ∙ d.is; left = d.left }

-- what the code answers to each variant
abbrev code_opened : ℕ → Counts → OpenedE → Stepped
code_opened r c (Ready w) = Going (paused_at (Solving 1) r c w)
code_opened r c Done = Over (Ok Converged) (counts_back c)
code_opened r c (Failed x) = Over (Err x) (counts_back c)

abbrev code_turned : Bool → ℕ → ℕ → Counts → (Scalars → Scalars) → TurnedE → Stepped
code_turned b r k c g (More w) = cond b (Going (paused_at (Solving (k + 1)) r c w)) (search_from r c (g w))
code_turned b r k c g (Stop w) = search_from r c (g w)

abbrev code_tried : Bool → Bool → ℕ → ℕ → Counts → TriedE → Stepped
code_tried b b' r j c (Accept w) = cond b (Going (paused_at Opening (r + 1) c w)) (Over (Ok Limit) (counts_back c))
code_tried b b' r j c (Halve w) = cond b' (Going (paused_at (Searching (j + 1)) r c w)) (Over (Err Search) (counts_back c))

module _ (sh : Sizes) (tm : Terms) (tol : Float) (x : List Float) (r : ℕ) (c : Counts) (e m : List Float) where
  after-opened : (q : Opened Failure Data) (o : OpenedE) → DidOpen sh e q o m → Did sh e (after_opening r c q) (code_opened r c o) m
  unfolding after_opening opened_res opened_data answer left_data paused_of data_of how_of
  after-opened (ready (held a v)) o d = record { is = ap (code_opened r c) d.is; left = d.left }
  after-opened (done (held a v)) o d = record { is = ap (code_opened r c) d.is; left = d.left }
  after-opened (fails x' (held a v)) o d = record { is = ap (code_opened r c) d.is; left = d.left }

  after-turned : (k : ℕ) (b : Bool) → ltb k 4999 ≡ b → (q : Turned Data) (o : TurnedE) → DidTurn sh e q o m →
      Did sh e (after_turn (parts sh tm tol x) r k c q) (code_turned b r k c (λ w. aim_by sh tm w (vars sh m)) o) m
  unfolding after_turn turned_res turned_data parts answer left_data paused_of data_of aim
  after-turned k true t (more (held a v)) o d = rw t (record { is = ap (code_turned true r k c (λ w. aim_by sh tm w (vars sh m))) d.is; left = d.left })
  after-turned k false t (more (held a v)) o d =
      rw (t, vars-of sh d.left) (record { is = ap (code_turned false r k c (λ w. aim_by sh tm w v)) d.is; left = d.left })
  after-turned k b t (stop (held a v)) o d = rw (vars-of sh d.left) (record { is = ap (code_turned b r k c (λ w. aim_by sh tm w v)) d.is; left = d.left })

  after-tried : (M j : ℕ) (b b' : Bool) → ltb (r + 1) M ≡ b → ltb (j + 1) 100 ≡ b' → (q : Tried Data) (o : TriedE) → DidTry sh e q o m →
      Did sh e (after_trial (parts sh tm tol x) M r j c q) (code_tried b b' r j c o) m
  unfolding after_trial next_round tried_res tried_data parts answer left_data paused_of data_of how_of
  after-tried M j true b' t t' (accept (held a v)) o d = rw t (record { is = ap (code_tried true b' r j c) d.is; left = d.left })
  after-tried M j false b' t t' (accept (held a v)) o d = rw t (record { is = ap (code_tried false b' r j c) d.is; left = d.left })
  after-tried M j b true t t' (halve (held a v)) o d = rw t' (record { is = ap (code_tried b true r j c) d.is; left = d.left })
  after-tried M j b false t t' (halve (held a v)) o d = rw t' (record { is = ap (code_tried b false r j c) d.is; left = d.left })

-- the returns of the steps
module _ (sh : Sizes) (tm : Terms) (tol : Float) (x : List Float) (M r : ℕ) (c : Counts) (a : Scalars) (v : Store) {e m : List Float} where
  module _ {o : OpenedE} (d : DidOpen sh e (opens sh tm x tol r (held a v)) o m) where
    opening-by : Did sh e (step (parts sh tm tol x) M (opening r c (held a v))) (code_opened r (round+ c) o) m
    unfolding step parts
    opening-by = after-opened sh tm tol x r (round+ c) e m (opens sh tm x tol r (held a v)) o d

    pub opening-ready : {w : Scalars} → o ≡ Ready w → Did sh e (step (parts sh tm tol x) M (opening r c (held a v))) (Going (paused_at (Solving 1) r (round+ c) w)) m
    opening-ready q = told opening-by (rw q)

    pub opening-done : o ≡ Done → Did sh e (step (parts sh tm tol x) M (opening r c (held a v))) (Over (Ok Converged) (counts_back (round+ c))) m
    opening-done q = told opening-by (rw q)

    pub opening-fails : {y : Failure} → o ≡ Failed y → Did sh e (step (parts sh tm tol x) M (opening r c (held a v))) (Over (Err y) (counts_back (round+ c))) m
    opening-fails q = told opening-by (rw q)

  module _ (k : ℕ) {o : TurnedE} (d : DidTurn sh e (turns sh k (held a v)) o m) where
    solving-by : (b : Bool) → ltb k 4999 ≡ b →
        Did sh e (step (parts sh tm tol x) M (solving r k c (held a v))) (code_turned b r k (solver+ c) (λ g. aim_by sh tm g (vars sh m)) o) m
    unfolding step parts
    solving-by b t = after-turned sh tm tol x r (solver+ c) e m k b t (turns sh k (held a v)) o d

    pub solving-again : {w : Scalars} → o ≡ More w → k < 4999 →
        Did sh e (step (parts sh tm tol x) M (solving r k c (held a v))) (Going (paused_at (Solving (k + 1)) r (solver+ c) w)) m
    solving-again q h = told (solving-by true (lt-ltb k 4999 h)) (rw q)

    pub solving-last : {w : Scalars} → o ≡ More w → 4999 ≤ k → {g : Stepped} → g ≡ search_from r (solver+ c) (aim_by sh tm w (vars sh m)) →
        Did sh e (step (parts sh tm tol x) M (solving r k c (held a v))) g m
    solving-last q h y = told (solving-by false (le-ltb k 4999 h)) (rw q y)

    pub solving-stop : {u w : Scalars} → o ≡ Stop u → w ≡ turned_in o → {g : Stepped} → g ≡ search_from r (solver+ c) (aim_by sh tm w (vars sh m)) →
        Did sh e (step (parts sh tm tol x) M (solving r k c (held a v))) g m
    solving-stop q z y = told (solving-by (ltb k 4999) refl) (rw q (y ∙ rw (z, q)))

  module _ (j : ℕ) {o : TriedE} (d : DidTry sh e (tries sh tm x (held a v)) o m) where
    searching-by : (b b' : Bool) → ltb (r + 1) M ≡ b → ltb (j + 1) 100 ≡ b' →
        Did sh e (step (parts sh tm tol x) M (searching r j c (held a v))) (code_tried b b' r j (trial+ c) o) m
    unfolding step parts
    searching-by b b' t t' = after-tried sh tm tol x r (trial+ c) e m M j b b' t t' (tries sh tm x (held a v)) o d

    pub searching-again : {u w : Scalars} → o ≡ Halve u → w ≡ tried_in o → j + 1 < 100 →
        Did sh e (step (parts sh tm tol x) M (searching r j c (held a v))) (Going (paused_at (Searching (j + 1)) r (trial+ c) w)) m
    searching-again q z h = told (searching-by (ltb (r + 1) M) true refl (lt-ltb (j + 1) 100 h)) (rw (z, q))

    pub searching-none : {w : Scalars} → o ≡ Halve w → 100 ≤ j + 1 →
        Did sh e (step (parts sh tm tol x) M (searching r j c (held a v))) (Over (Err Search) (counts_back (trial+ c))) m
    searching-none q h = told (searching-by (ltb (r + 1) M) false refl (le-ltb (j + 1) 100 h)) (rw q)

    pub searching-next : {w : Scalars} → o ≡ Accept w → r + 1 < M →
        Did sh e (step (parts sh tm tol x) M (searching r j c (held a v))) (Going (paused_at Opening (r + 1) (trial+ c) w)) m
    searching-next q h = told (searching-by true (ltb (j + 1) 100) (lt-ltb (r + 1) M h) refl) (rw q)

    pub searching-limit : {w : Scalars} → o ≡ Accept w → M ≤ r + 1 →
        Did sh e (step (parts sh tm tol x) M (searching r j c (held a v))) (Over (Ok Limit) (counts_back (trial+ c))) m
    searching-limit q h = told (searching-by false (ltb (j + 1) 100) (le-ltb (r + 1) M h) refl) (rw q)
