-- Starting and resuming: what each call answers and leaves, for every input and every content of the lent memory. Definitions only.
use Rattle.refusal.specs.declared.Refusal.{Refusal}
use Rattle.std.specs.Prelude.{Bool, cond, List, ℕ, length, Float, Result, ⊤, Ok, Err}
use Rattle.arrays.specs.Sums.{plus0}
use Rattle.arrays.specs.Vectors.{fill_of}
use Rattle.refusal.specs.declared.Refusal.TheVariants.{Record}
use Rattle.refusal.specs.declared.Way.{Way}
use Rattle.refusal.specs.declared.Way.TheVariants.{Converged, Limit}
use Rattle.refusal.specs.declared.Failure.{Failure}
use Rattle.refusal.specs.Refusal.{number_of, place_of, refused_by}
use Rattle.settings.specs.declared.Settings.{Settings}
use Rattle.settings.specs.Settings.{terms_of}
use Rattle.layout.specs.declared.Sizes.{Sizes}
use Rattle.layout.specs.Slots.{Store, vars, rest, flatly}
use Rattle.layout.specs.Need.{sizes_of}
use Rattle.pause.specs.Progress.{Progress, over, going}
use Rattle.pause.specs.Parts.{none, End, end}
use Rattle.pause.specs.Paused.{State, data_of, call}
use Rattle.lasso_optimizer.specs.Data.{Data, store_of}
use Rattle.lasso_optimizer.specs.Fit.{parts, fresh}
use Rattle.records.specs.declared.Counts.{Counts}
use Rattle.records.specs.declared.Paused.{Paused}
use Rattle.records.specs.declared.Stage.TheVariants.{Opening}
use Rattle.records.specs.Record.{counts_back, state_of, paused_of, paused_at}
use Rattle.stages.specs.Stage.{how_of}
use Rattle.checks.specs.Checks.{limits_of, start_values}
use Rattle.records.specs.Records.{possible_of, ended_of}
use Rattle.beginning.specs.Start.{start_store}
use Rattle.ending.specs.End.{weights_of, intercept_of, gone}
use Rattle.elastic_net.specs.declared.Answer.{Answer}
use Rattle.elastic_net.specs.declared.Answer.TheVariants.{Pending as PendingA, Done as DoneA, Refused as RefusedA}
use Rattle.elastic_net.specs.declared.Resumed.{Resumed}

-- ---- what an answer says, in 01's words: each case of the enum with its number, place and values

pub data Said : Type 0 where
  pending : Said
  converged : Float → Counts → Said
  limit : Float → Counts → Said
  refused : ℕ → ℕ → Said

abbrev pub done_as : Way → Float → Counts → Said
done_as Converged b c = converged b c
done_as Limit b c = limit b c

abbrev pub said : Answer → Said
said PendingA = pending
said (DoneA b w c) = done_as w b c
said (RefusedA r) = refused (number_of r) (place_of r)

-- what a resuming call answers, and what it leaves in the record, the weights and the scratch
pub record Outcome : Type 0 where
  pub answer : Said
  pub paused : Paused
  pub weights : List Float
  pub scratch : List Float

abbrev pub outcome : Resumed → List Float → List Float → Outcome
outcome r w s = record { answer = said r.answer; paused = r.paused; weights = w; scratch = s }

-- ---- a resuming call

-- a fit that failed answers as a refusal
abbrev pub end_answer : Result Way Failure → Float → Counts → Said
end_answer (Ok w) b c = done_as w b c
end_answer (Err f) b c = refused (number_of (refused_by f)) (place_of (refused_by f))

-- a fit that is refused has no weights: they are +0
abbrev pub end_weights : Result Way Failure → ℕ → List Float → List Float
end_weights (Ok w) p ws = ws
end_weights (Err f) p ws = fill_of plus0 p

module _ (sh : Sizes) (normalise : Bool) (gamma : Float) (ys : List Float) where
  -- e is the scratch's excess
  unfoldable pub end_outcome : List Float → Result Way Failure → Counts → Store → Outcome
  end_outcome e h c v = record {
    answer = end_answer h (intercept_of sh normalise gamma ys v) c;
    paused = ended_of c;
    weights = end_weights h sh.p (weights_of sh normalise gamma v);
    scratch = gone sh e;
  }

  -- the same of an end of the machine
  unfoldable pub ending : List Float → End Failure Data → Outcome
  ending e (end h c d) = end_outcome e (how_of h) (counts_back c) (store_of d)

  -- how the state of a fit shows, w being the weights as they were
  unfoldable pub shown : List Float → List Float → Progress (End Failure Data) (State Data) → Outcome
  shown e w (over x) = ending e x
  shown e w (going x) = record { answer = pending; paused = paused_of x; weights = w; scratch = flatly sh (store_of (data_of x)) e }

-- a refusal changes nothing
abbrev pub by_check : Result ⊤ Refusal → Paused → List Float → List Float → Outcome → Outcome
by_check (Ok tt) a w s o = o
by_check (Err r) a w s o = record { answer = refused (number_of r) (place_of r); paused = a; weights = w; scratch = s }

-- n, p, matrix, targets, settings, record, scratch, weights, budget
unfoldable pub resume_of : ℕ → ℕ → List Float → List Float → Settings → Paused → List Float → List Float → ℕ → Outcome
resume_of n p x y st a s w b =
    let sh = sizes_of n p st in
    let tm = terms_of st n in
    by_check (limits_of n p (length x) (length y) (length w) st (length s)) a w s
    (by_check (cond (possible_of st.max_iter a) (Ok tt) (Err Record)) a w s
    (shown sh st.normalise tm.gamma y (rest sh s) w (call (parts sh tm st.tol x) st.max_iter b (state_of a (vars sh s)))))

-- ---- a start

pub data SaidS : Type 0 where
  ready : Paused → SaidS
  refused_s : ℕ → ℕ → SaidS

abbrev pub said_s : Result Paused Refusal → SaidS
said_s (Ok a) = ready a
said_s (Err r) = refused_s (number_of r) (place_of r)

-- what a start answers, and what it leaves in the scratch
pub record StartOutcome : Type 0 where
  pub answer : SaidS
  pub scratch : List Float

abbrev pub start_outcome : Result Paused Refusal → List Float → StartOutcome
start_outcome r s = record { answer = said_s r; scratch = s }

abbrev pub by_start_check : Result ⊤ Refusal → List Float → StartOutcome → StartOutcome
by_start_check (Ok tt) s o = o
by_start_check (Err r) s o = record { answer = refused_s (number_of r) (place_of r); scratch = s }

-- n, p, matrix, targets, settings, scratch: 1 to 4, with p for the number of weights, then 5 and 6, each of which changes nothing; else a fresh fit
unfoldable pub start_of : ℕ → ℕ → List Float → List Float → Settings → List Float → StartOutcome
start_of n p x y st s =
    let sh = sizes_of n p st in
    let tm = terms_of st n in
    by_start_check (limits_of n p (length x) (length y) p st (length s)) s
    (by_start_check (start_values x y n p st.normalise) s
    (record {
      answer = ready (paused_at Opening 0 none (fresh p tm.lambda));
      scratch = flatly sh (start_store sh st.normalise tm x y) (rest sh s);
    }))
