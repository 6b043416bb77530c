-- A record's words, written one after another. Assumes nothing.
use mathlib.Core.Path.{◌≡◌, sym, ◌∙◌}
use mathlib.Core.List.{List, ◌∷◌}
use Prim.Native.Nat.{ℕ}
use lib.ListN.{length}
use lib.Seq.{sets}
use Rattle.arrays.specs.Part.{put}
use Rattle.arrays.proofs.Part.{put_all}
use Rattle.records.specs.declared.Paused.{Paused}
use Rattle.c_words.specs.Words.{stage_word, index_word, scalars_words, paused_words}

pub paused-written : (a : Paused) (l : List ℕ) {m : List ℕ} {g i : ℕ} → length l ≡ 16 → g ≡ stage_word a.stage → i ≡ index_word a.stage
    → m ≡ sets l 0 (g ∷ i ∷ a.round ∷ a.counts.rounds.0 ∷ a.counts.solver.0 ∷ a.counts.trials.0 ∷ scalars_words a.scalars) → m ≡ paused_words a
unfolding paused_words put
paused-written a l h eg ei q = q ∙ rw (eg, ei) (put_all l (paused_words a) (sym h))
