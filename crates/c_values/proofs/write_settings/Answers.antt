-- `c_values::write_settings` meets its contract: eight words are written, one after another, over eight. Assumes nothing.
use mathlib.Core.Path.{◌≡◌, sym, ◌∙◌}
use mathlib.Core.List.{List, [], ◌∷◌}
use Prim.Native.Nat.{ℕ}
use native.Mathlib.Omega.{arith}
use lib.ListN.{length, length-set}
use lib.Seq.{sets}
use Rattle.arrays.specs.Part.{put}
use Rattle.arrays.proofs.Part.{put_all}
use Rattle.settings.specs.declared.Settings.{Settings}
use Rattle.c_values.specs.Values.{truth_word, floats_words}
use Rattle.c_values.specs.Settings.{settings-words, settings_words}
use Rattle.c_values.proofs.write_settings.Goals as goal

written : (st : Settings) (l : List ℕ) {f : List ℕ} {m z : ℕ} → length l ≡ settings-words
    → f ≡ sets l 0 (floats_words (record { 0 = st.alpha; 1 = st.l1_ratio; 2 = st.tol })) → m ≡ truth_word st.normalise → z ≡ truth_word st.lazy
    → sets f 3 (st.max_iter ∷ st.panel_rows ∷ st.panel_cols ∷ m ∷ z ∷ []) ≡ settings_words st
unfolding settings_words put
written st l e ef em ez = rw (ef, em, ez) (put_all l (settings_words st) (sym e))

pub bounds-out-3 : goal.bounds-out-3
bounds-out-3 c =
    let sized : length c.write_floats.new.out ≡ settings-words = c.write_floats.auto.out ∙ c.requires in
    omega (arith, sized)

pub bounds-out-4 : goal.bounds-out-4
bounds-out-4 c =
    let sized : length c.write_floats.new.out ≡ settings-words = c.write_floats.auto.out ∙ c.requires in
    simp length-set (omega (arith, sized))

pub bounds-out-5 : goal.bounds-out-5
bounds-out-5 c =
    let sized : length c.write_floats.new.out ≡ settings-words = c.write_floats.auto.out ∙ c.requires in
    simp length-set (omega (arith, sized))

pub bounds-out-6 : goal.bounds-out-6
bounds-out-6 c =
    let sized : length c.write_floats.new.out ≡ settings-words = c.write_floats.auto.out ∙ c.requires in
    simp length-set (omega (arith, sized))

pub bounds-out-7 : goal.bounds-out-7
bounds-out-7 c =
    let sized : length c.write_floats.new.out ≡ settings-words = c.write_floats.auto.out ∙ c.requires in
    simp length-set (omega (arith, sized))

pub returns : goal.returns
returns c = written c.args.st c.args.out.now c.requires c.write_floats.ensures c.truth_word.ensures c.truth_word-2.ensures
