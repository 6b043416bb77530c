-- A record's words say the record again: what a call writes is what the next one reads. Assumes nothing.
use mathlib.Core.Path.{◌≡◌, refl}
use mathlib.Core.Bool.{Bool, true, false}
use mathlib.Core.List.{List}
use Prim.Native.Nat.{ℕ}
use lib.Ieee.{binary64}
use lib.Ieee.Bits.{of_bits-to_bits, of_bits-fits}
use Rattle.doubles.specs.Fit.{Fit}
use Rattle.records.specs.declared.Paused.{Paused}
use Rattle.records.specs.declared.Stage.{Stage}
use Rattle.records.specs.declared.Stage.TheVariants.{Opening, Solving, Searching, Ended}
use Rattle.c_values.specs.Values.{word, truth, truth_word}
use Rattle.c_words.specs.Words.{stage_from, stage_word, index_word, paused_from, paused_words}

stage-again : (g : Stage) → stage_from (stage_word g) (index_word g) ≡ g
stage-again Opening = refl
stage-again (Solving k) = refl
stage-again (Searching j) = refl
stage-again Ended = refl

truth-again : (b : Bool) → truth (truth_word b) ≡ b
truth-again true = refl
truth-again false = refl

pub record-round-trip : (a : Paused) → Fit a.scalars → paused_from (paused_words a) ≡ a
unfolding paused_from paused_words
record-round-trip a h =
    let v = a.scalars in
    rw (
      stage-again a.stage,
      of_bits-to_bits binary64 v.t h.t,
      of_bits-to_bits binary64 v.s h.s,
      of_bits-to_bits binary64 v.dual h.dual,
      of_bits-to_bits binary64 v.pcgtol h.pcgtol,
      of_bits-to_bits binary64 v.bnrm h.bnrm,
      of_bits-to_bits binary64 v.bkden h.bkden,
      of_bits-to_bits binary64 v.error h.error,
      of_bits-to_bits binary64 v.phi h.phi,
      of_bits-to_bits binary64 v.gdx h.gdx,
      truth-again v.missed,
    )

-- whatever the words, what is read of them has it
pub read_fits : (w : List ℕ) → Fit (paused_from w).scalars
unfolding paused_from
read_fits w = record {
  t = of_bits-fits binary64 (word w 6);
  s = of_bits-fits binary64 (word w 7);
  dual = of_bits-fits binary64 (word w 8);
  pcgtol = of_bits-fits binary64 (word w 9);
  bnrm = of_bits-fits binary64 (word w 10);
  bkden = of_bits-fits binary64 (word w 11);
  error = of_bits-fits binary64 (word w 12);
  phi = of_bits-fits binary64 (word w 13);
  gdx = of_bits-fits binary64 (word w 14);
}

-- what is read of any words is read of its own words too
pub read_again : (w : List ℕ) → paused_from (paused_words (paused_from w)) ≡ paused_from w
read_again w = record-round-trip (paused_from w) (read_fits w)
