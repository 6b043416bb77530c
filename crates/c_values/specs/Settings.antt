-- The settings as the words of a call, and back. Definitions only.
use Rattle.std.specs.Prelude.{List, [], ◌∷◌, ℕ}
use Rattle.numbers.specs.Ops.{f64}
use Rattle.settings.specs.declared.Settings.{Settings}
use Rattle.c_values.specs.Values.{word, truth, truth_word, bits}

-- alpha, l1_ratio, tol, M, R, C, normalise, lazy
abbrev pub settings-words : ℕ
settings-words = 8

-- as the words say them; whether they are allowed is asked later
unfoldable pub settings_from : List ℕ → Settings
settings_from w = record {
  alpha = f64 (word w 0);
  l1_ratio = f64 (word w 1);
  tol = f64 (word w 2);
  max_iter = word w 3;
  panel_rows = word w 4;
  panel_cols = word w 5;
  normalise = truth (word w 6);
  lazy = truth (word w 7);
}

unfoldable pub settings_words : Settings → List ℕ
settings_words st =
    bits st.alpha ∷ bits st.l1_ratio ∷ bits st.tol ∷ st.max_iter ∷ st.panel_rows ∷ st.panel_cols
    ∷ truth_word st.normalise ∷ truth_word st.lazy ∷ []
