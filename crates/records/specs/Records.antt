-- Which records a call may continue: 01's refusal 9. Definitions only.
use Rattle.std.specs.Prelude.{Bool, false, ◌&&◌, ◌||◌, ℕ, ◌+◌, ◌*◌, ltb, leb, eqb}
use Rattle.arrays.specs.Sums.{plus0}
use Rattle.records.specs.declared.Counts.{Counts}
use Rattle.records.specs.declared.Paused.{Paused}
use Rattle.records.specs.declared.Stage.{Stage}
use Rattle.records.specs.declared.Stage.TheVariants.{Opening, Solving, Searching, Ended}

-- the Newton count is the rounds opened, and the other counts are at most 4,999 and 100 times that
unfoldable pub counted_of : ℕ → Counts → Bool
counted_of opened c = eqb c.rounds.0 opened && leb c.solver.0 (4999 * opened) && leb c.trials.0 (100 * opened)

-- the round is below M, a fresh record with M = 0 excepted; solver round and trials done where the stage has them
unfoldable pub possible_at : Stage → ℕ → ℕ → Counts → Bool
possible_at Opening M r c = (ltb r M || (eqb M 0 && eqb r 0)) && counted_of r c
possible_at (Solving k) M r c = ltb r M && leb 1 k && leb k 4999 && counted_of (r + 1) c
possible_at (Searching j) M r c = ltb r M && leb j 99 && counted_of (r + 1) c
possible_at Ended M r c = false

unfoldable pub possible_of : ℕ → Paused → Bool
possible_of M a = possible_at a.stage M a.round a.counts

-- no step is to be taken: M rounds are made at an opening
unfoldable pub spent_of : Stage → ℕ → ℕ → Bool
spent_of Opening M r = leb M r
spent_of (Solving k) M r = false
spent_of (Searching j) M r = false
spent_of Ended M r = false

unfoldable pub spent_at : ℕ → Paused → Bool
spent_at M a = spent_of a.stage M a.round

-- a record whose fit is over: its counts, and fixed values
unfoldable pub ended_of : Counts → Paused
ended_of c = record {
  stage = Ended;
  round = 0;
  counts = c;
  scalars = record { t = plus0; s = plus0; dual = plus0; pcgtol = plus0; bnrm = plus0; bkden = plus0; error = plus0; phi = plus0; gdx = plus0; missed = false };
}
