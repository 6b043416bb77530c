-- What a call's answer says, as words: kind (0 pending or ready, 1 converged, 2 limit, 3 refused), number, place, the three counts, the intercept.
-- Definitions only.
use Rattle.refusal.specs.declared.Refusal.{Refusal}
use Rattle.std.specs.Prelude.{Bool, false, not, List, [], ◌∷◌, ℕ, eqb, Err, Ok, Result, ⊤, Float}
use Rattle.refusal.specs.Refusal.{number_of, place_of, ends_fit}
use Rattle.records.specs.declared.Counts.{Counts}
use Rattle.refusal.specs.declared.Way.{Way}
use Rattle.refusal.specs.declared.Way.TheVariants.{Converged as ConvergedW, Limit as LimitW}
use Rattle.elastic_net.specs.ElasticNet.{Said, pending, converged, limit, refused, SaidS, ready, refused_s}
use Rattle.c_values.specs.Values.{bits}
use Rattle.c_words.specs.declared.Told.{Told}
use Rattle.c_words.specs.Words.{paused_words}

abbrev pub kind_of : Said → ℕ
kind_of pending = 0
kind_of (converged b c) = 1
kind_of (limit b c) = 2
kind_of (refused n i) = 3

abbrev pub number_in : Said → ℕ
number_in pending = 0
number_in (converged b c) = 0
number_in (limit b c) = 0
number_in (refused n i) = n

abbrev pub place_in : Said → ℕ
place_in pending = 0
place_in (converged b c) = 0
place_in (limit b c) = 0
place_in (refused n i) = i

abbrev pub intercept_in : Said → ℕ
intercept_in pending = 0
intercept_in (converged b c) = bits b
intercept_in (limit b c) = bits b
intercept_in (refused n i) = 0

unfoldable pub answer_words : Said → Counts → List ℕ
answer_words a c = kind_of a ∷ number_in a ∷ place_in a ∷ c.rounds.0 ∷ c.solver.0 ∷ c.trials.0 ∷ intercept_in a ∷ []

-- whether a call with this budget leaves the record's words as they were: where it is refused, unless that ends the fit, and where it is pending without a step
abbrev pub keeps : Said → ℕ → Bool
keeps pending budget = eqb budget 0
keeps (converged b c) budget = false
keeps (limit b c) budget = false
keeps (refused n i) budget = not (ends_fit n)

-- ---- a start

abbrev pub started_said : SaidS → Said
started_said (ready a) = pending
started_said (refused_s n i) = refused n i

abbrev pub started_record : SaidS → List ℕ → List ℕ
started_record (ready a) rw = paused_words a
started_record (refused_s n i) rw = rw

-- ---- what the functions answer

abbrev pub told_of : Said → Told
told_of a = record { kind = kind_of a; number = number_in a; place = place_in a; last = intercept_in a }

abbrev pub way_of : Way → ℕ
way_of ConvergedW = 1
way_of LimitW = 2

abbrev pub told_predicted : Result ⊤ Refusal → Told
told_predicted (Ok tt) = record { kind = 1; number = 0; place = 0; last = 0 }
told_predicted (Err r) = told_of (refused (number_of r) (place_of r))

abbrev pub told_solved : Result Float Refusal → Told
told_solved (Ok e) = record { kind = 1; number = 0; place = 0; last = bits e }
told_solved (Err r) = told_of (refused (number_of r) (place_of r))
