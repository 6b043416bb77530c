-- What the program answers to a sheet: the text of its fit, or of the first refusal in 01's order. Definitions only.
use Rattle.sheet_header.specs.declared.Header.{Header}
use Rattle.std.specs.Prelude.{◌≡◌, ◌&&◌, cond, List, [], ℕ, ◌*◌, leb, ltb, length, Float, Err, Ok, Result}
use Rattle.std.specs.Float.{binary64}
use Rattle.std.specs.Float.Ieee.{to_bits}
use Rattle.arrays.specs.Part.{tab}
use Rattle.arrays.specs.Sums.{◌!◌, plus0}
use Rattle.arrays.specs.Vectors.{fill_of}
use Rattle.refusal.specs.declared.Refusal.{Refusal}
use Rattle.refusal.specs.declared.Refusal.TheVariants.{TooLarge}
use Rattle.refusal.specs.declared.Way.{Way}
use Rattle.refusal.specs.declared.Way.TheVariants.{Converged, Limit}
use Rattle.refusal.specs.Refusal.{number_of, place_of}
use Rattle.settings.specs.declared.Settings.{Settings}
use Rattle.records.specs.declared.Counts.{Counts}
use Rattle.elastic_net.specs.ElasticNet.{Said, pending, converged, limit, refused, Outcome}
use Rattle.whole_fit.specs.Fit.{whole_of}
use Rattle.sheet_header.specs.Header.{header_read}
use Rattle.sheet.specs.Sheet.{rows_read, outcome, sheet_of}
use Rattle.sheet.specs.Sheet.{Outcome as SheetOutcome}
use Rattle.answer_text.specs.Text.{Written.written, laid, done_text, refused_text}

abbrev pub refusal_text : Refusal → List ℕ
refusal_text r = refused_text (number_of r) (place_of r)

unfoldable pub bits_of : ℕ → List Float → List ℕ
bits_of p ws = tab (λ j. to_bits binary64 (ws ! j)) p

abbrev pub ended_text : Way → Float → Counts → List ℕ → List ℕ
ended_text e b c ws = done_text e c.rounds.0 c.solver.0 c.trials.0 (to_bits binary64 b) ws

-- no whole fit is pending
abbrev pub answer_text : Said → List ℕ → List ℕ
answer_text pending ws = []
answer_text (converged b c) ws = ended_text Converged b c ws
answer_text (limit b c) ws = ended_text Limit b c ws
answer_text (refused n i) ws = refused_text n i

-- the text of a whole fit of p columns
abbrev pub whole_text : ℕ → Outcome → List ℕ
whole_text p o = answer_text o.answer (bits_of p o.weights)

-- 6,336 words of scratch are enough for n to 256 and p to 16 with panels of 32 by 8
unfoldable pub fit_text : ℕ → ℕ → Settings → List Float → List Float → List ℕ
fit_text n p st x y = whole_text p (whole_of n p x y st (fill_of plus0 6336) (fill_of plus0 p))

abbrev pub read_text : SheetOutcome → List ℕ
read_text (outcome (Err r) x y) = refusal_text r
read_text (outcome (Ok h) x y) = fit_text h.n h.p h.settings x y

-- matrix and targets have room for n rows of p features
unfoldable pub lent_text : List ℕ → ℕ → ℕ → List ℕ
lent_text b n p = read_text (sheet_of b 32 8 (fill_of plus0 (n * p)) (fill_of plus0 n))

-- they are lent for the rows that remain
abbrev pub counted_text : List ℕ → Result Header Refusal → List ℕ
counted_text b (Err r) = refusal_text r
counted_text b (Ok h) = lent_text b h.n h.p

-- n rows, cancelled ones too, of p features: 16 after 13
unfoldable pub sized_text : List ℕ → ℕ → ℕ → List ℕ
sized_text b n p = cond (leb n 256 && leb p 16) (counted_text b (rows_read b 32 8)) (refusal_text TooLarge)

abbrev pub headed_text : List ℕ → Result Header Refusal → List ℕ
headed_text b (Err r) = refusal_text r
headed_text b (Ok h) = sized_text b h.n h.p

-- 16 beyond 35,882 bytes, whatever the version, ahead of everything
unfoldable pub sheet_text : List ℕ → List ℕ
sheet_text b = cond (ltb 35882 (length b)) (refusal_text TooLarge) (headed_text b (header_read b 32 8))

-- the contract of `fit_sheet`: for the bytes b it answers k, and leaves out' where `out` was lent
abbrev pub FitsSheet : List ℕ → List ℕ → ℕ → List ℕ → Type 0
FitsSheet b out k out' = written k out' ≡ laid (sheet_text b) out
