-- 01's worked scratch needs, computed from the formula. Assumes nothing.
use mathlib.Core.Path.{◌≡◌}
use mathlib.Core.Bool.{true, false}
use Rattle.settings.specs.declared.Settings.{Settings}
use Rattle.layout.specs.Need.{need_of}

two-by-one : (st : Settings) → st.lazy ≡ false → need_of 2 1 st ≡ 56
unfolding need_of
two-by-one st q = rw q

-- the program's largest sizes: eager takes all that it lends
program-eager : (st : Settings) → st.lazy ≡ false → need_of 256 16 st ≡ 6336
unfolding need_of
program-eager st q = rw q

program-lazy : (st : Settings) → st.lazy ≡ true → st.panel_rows ≡ 32 → st.panel_cols ≡ 8 → need_of 256 16 st ≡ 2560
unfolding need_of
program-lazy st q r c = rw (q, r, c)

largest : (st : Settings) → st.lazy ≡ false → need_of 4096 64 st ≡ 289536
unfolding need_of
largest st q = rw q
