-- The contracts of `start` and `resume` can be met: there is an answer that says what each definition has. Assumes nothing.
use Rattle.refusal.specs.declared.Refusal.{Refusal}
use Rattle.std.specs.Prelude.{Result, ⊤, Ok, Err}
use Prim.Native.Nat.{ℕ}
use mathlib.Core.Path.{◌≡◌, refl, ap}
use mathlib.Core.Bool.{Bool, cond}
use mathlib.Core.List.{List}
use lib.ListN.{length}
use lib.Ieee.{Float}
use Rattle.refusal.specs.declared.Failure.{Failure}
use Rattle.refusal.specs.declared.Refusal.TheVariants.{Record}
use Rattle.settings.specs.declared.Settings.{Settings}
use Rattle.settings.specs.Settings.{terms_of}
use Rattle.layout.specs.declared.Sizes.{Sizes}
use Rattle.layout.specs.Slots.{vars, rest}
use Rattle.layout.specs.Need.{sizes_of}
use Rattle.pause.specs.Progress.{Progress, over, going}
use Rattle.pause.specs.Parts.{End, end, converged, limit, failed}
use Rattle.pause.specs.Paused.{State, call}
use Rattle.lasso_optimizer.specs.Data.{Data}
use Rattle.records.specs.declared.Paused.{Paused}
use Rattle.records.specs.Record.{state_of}
use Rattle.stages.specs.Stage.{how_of}
use Rattle.checks.specs.Checks.{limits_of, start_values}
use Rattle.records.specs.Records.{possible_of}
use Rattle.refusal.specs.declared.Way.TheVariants.{Converged, Limit}
use Rattle.refusal.specs.Refusal.{refused_by}
use Rattle.elastic_net.specs.declared.Answer.{Answer}
use Rattle.elastic_net.specs.declared.Answer.TheVariants.{Pending, Done, Refused}
use Rattle.elastic_net.specs.declared.Resumed.{Resumed}
use Rattle.elastic_net.specs.ElasticNet.{Said, said, Outcome, end_outcome, ending, shown, by_check, resume_of, SaidS, said_s, StartOutcome, by_start_check, start_of}
use Rattle.promises.specs.Chain.{Starts, Resumes}
use Rattle.promises.proofs.Calls.{parts_of}

record Answered (t : Said) : Type 0 where
  answer : Answer
  is : said answer ≡ t

module _ (sh : Sizes) (normalise : Bool) (gamma : Float) (ys e w : List Float) where
  shown-answered : (q : Progress (End Failure Data) (State Data)) → Answered (shown sh normalise gamma ys e w q).answer
  unfolding shown ending end_outcome how_of
  shown-answered (over (end converged c d)) = record { answer = Done _ Converged _; is = refl }
  shown-answered (over (end limit c d)) = record { answer = Done _ Limit _; is = refl }
  shown-answered (over (end (failed x) c d)) = record { answer = Refused (refused_by x); is = refl }
  shown-answered (going z) = record { answer = Pending; is = refl }

by-check : (k : Result ⊤ Refusal) (a : Paused) (w s : List Float) (o : Outcome) → Answered o.answer → Answered (by_check k a w s o).answer
by-check (Ok tt) a w s o h = h
by-check (Err r) a w s o h = record { answer = Refused r; is = refl }

record AnsweredS (t : SaidS) : Type 0 where
  answer : Result Paused Refusal
  is : said_s answer ≡ t

by-start-check : (k : Result ⊤ Refusal) (s : List Float) (o : StartOutcome) → AnsweredS o.answer → AnsweredS (by_start_check k s o).answer
by-start-check (Ok tt) s o h = h
by-start-check (Err r) s o h = record { answer = Err r; is = refl }

module _ (n p : ℕ) (x y : List Float) (st : Settings) where
  answered : (a : Paused) (s w : List Float) (b : ℕ) → Answered (resume_of n p x y st a s w b).answer
  unfolding resume_of
  answered a s w b =
      let sh = sizes_of n p st in
      by-check (limits_of n p (length x) (length y) (length w) st (length s)) a w s _
      (by-check (cond (possible_of st.max_iter a) (Ok tt) (Err Record)) a w s _
      (shown-answered sh st.normalise (terms_of st n).gamma y (rest sh s) w (call (parts_of n p x st) st.max_iter b (state_of a (vars sh s)))))

  answered_s : (s : List Float) → AnsweredS (start_of n p x y st s).answer
  unfolding start_of
  answered_s s =
      by-start-check (limits_of n p (length x) (length y) p st (length s)) s _
      (by-start-check (start_values x y n p st.normalise) s _ (record { answer = Ok _; is = refl }))

  -- a call of `resume` that its contract allows, and one of `start`
  pub record Resuming (a : Paused) (s w : List Float) (b : ℕ) : Type 0 where
    pub result : Resumed
    pub allowed : Resumes n p x y st a s w b result (resume_of n p x y st a s w b).weights (resume_of n p x y st a s w b).scratch

  pub record Starting (s : List Float) : Type 0 where
    pub result : Result Paused Refusal
    pub allowed : Starts n p x y st s result (start_of n p x y st s).scratch

  pub resuming : (a : Paused) (s w : List Float) (b : ℕ) → Resuming a s w b
  resuming a s w b =
      let o = resume_of n p x y st a s w b in
      let k = answered a s w b in
      record {
        result = record { answer = k.answer; paused = o.paused };
        allowed = ap (λ (t : Said). record { answer = t; paused = o.paused; weights = o.weights; scratch = o.scratch }) k.is;
      }

  pub starting : (s : List Float) → Starting s
  starting s =
      let o = start_of n p x y st s in
      let k = answered_s s in
      record { result = k.answer; allowed = ap (λ (t : SaidS). record { answer = t; scratch = o.scratch }) k.is }
