-- The sizes of a fit and 01's formula of its scratch need. Definitions only.
use Rattle.std.specs.Prelude.{true, false, cond, ℕ, ◌+◌, ◌*◌, ◌≤◌}
use Rattle.settings.specs.declared.Settings.{Settings}
use Rattle.layout.specs.declared.Sizes.{Sizes}

unfoldable pub sizes_of : ℕ → ℕ → Settings → Sizes
sizes_of n p st =
    cond st.lazy
    (record { n = n; p = p; k = n + p; lazy = true; stored = 0; pr = st.panel_rows; pc = st.panel_cols })
    (record { n = n; p = p; k = n + p; lazy = false; stored = n + p; pr = 0; pc = 0 })

-- p² + 40p + 4(n+p), plus (n+p)p eager, plus 2RC + C² lazy
unfoldable pub need_of : ℕ → ℕ → Settings → ℕ
need_of n p st =
    p * p + 40 * p + 4 * (n + p) + cond st.lazy (2 * (st.panel_rows * st.panel_cols) + st.panel_cols * st.panel_cols) ((n + p) * p)

-- sizes within 01's ranges, so that no product of them is large
pub record Small (sh : Sizes) : Type 0 where
  pub columns : sh.p ≤ 64
  pub design : sh.k ≤ 4160
  pub stored : sh.stored ≤ 4160
  pub panel-rows : sh.pr ≤ 256
  pub panel-columns : sh.pc ≤ 32
