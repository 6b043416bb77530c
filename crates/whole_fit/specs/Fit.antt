-- A fit in one call: what it answers and leaves, for every input. Definitions only.
use Rattle.whole_fit.specs.declared.Fitted.{Fitted}
use Rattle.std.specs.Prelude.{◌≡◌, List, ℕ, length, Float, Err, Ok, Result}
use Rattle.refusal.specs.declared.Refusal.{Refusal}
use Rattle.refusal.specs.Refusal.{number_of, place_of}
use Rattle.settings.specs.declared.Settings.{Settings}
use Rattle.layout.specs.Slots.{rest}
use Rattle.layout.specs.Need.{sizes_of}
use Rattle.pause.specs.Parts.{none}
use Rattle.records.specs.Record.{counts_back}
use Rattle.checks.specs.Checks.{limits_of, start_values}
use Rattle.records.specs.Records.{ended_of}
use Rattle.elastic_net.specs.declared.Resumed.{Resumed}
use Rattle.elastic_net.specs.ElasticNet.{Said, pending, refused, done_as, said, Outcome, by_check, StartOutcome, by_start_check, start_of}
use Rattle.smartcore.specs.ElasticNet.{fit}
use Rattle.promises.specs.Outcome.{outcome_of}
use Rattle.whole_fit.specs.declared.Whole.{Whole}

-- what a whole fit answers, in 01's words
abbrev pub said_final : Result Fitted Refusal → Said
said_final (Ok f) = done_as f.way f.intercept f.counts
said_final (Err r) = refused (number_of r) (place_of r)

abbrev pub whole_outcome : Whole → List Float → List Float → Outcome
whole_outcome r w s = record { answer = said_final r.answer; paused = r.paused; weights = w; scratch = s }

-- 1 to 6 write nothing, and the record is an ended one with counts 0; else smartcore's fit
unfoldable pub whole_of : ℕ → ℕ → List Float → List Float → Settings → List Float → List Float → Outcome
whole_of n p x y st s w =
    let sh = sizes_of n p st in
    let none_made = ended_of (counts_back none) in
    by_check (limits_of n p (length x) (length y) (length w) st (length s)) none_made w s
    (by_check (start_values x y n p st.normalise) none_made w s
    (outcome_of sh (rest sh s) (fit n p x y st)))

-- the contract: what a whole fit may answer and leave, in one call or in pieces
abbrev pub Fits : ℕ → ℕ → List Float → List Float → Settings → List Float → List Float → Whole → List Float → List Float → Type 0
Fits n p x y st s w r w' s' = whole_outcome r w' s' ≡ whole_of n p x y st s w

-- ---- what `start_whole`, `refused` and `settled` answer

-- a start that is told the weights' length: 1 to 4 with it come first
unfoldable pub start_whole : ℕ → ℕ → List Float → List Float → Settings → List Float → ℕ → StartOutcome
start_whole n p x y st s wl = by_start_check (limits_of n p (length x) (length y) wl st (length s)) s (start_of n p x y st s)

-- a fit that was not begun: an ended record with counts 0
abbrev pub refused_as : Refusal → Whole
refused_as r = record { answer = Err r; paused = ended_of (counts_back none) }

abbrev pub HasEnded : Resumed → Type 0
HasEnded r = said r.answer ≡ pending → ⊥

-- what a whole fit says of the call that ended it: the same answer and record
pub record Settles (r : Resumed) (o : Whole) : Type 0 where
  pub says : said_final o.answer ≡ said r.answer
  pub paused : o.paused ≡ r.paused
