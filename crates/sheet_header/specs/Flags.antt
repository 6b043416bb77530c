-- A sheet's flags and the settings' truth values, both ways: 1 says normalise, 2 lazy. Definitions only.
use Rattle.std.specs.Prelude.{Bool, cond, ℕ, ◌+◌, ◌%◌, leb, eqb}
use Rattle.settings.specs.declared.Settings.{Settings}

-- 13 where not
abbrev pub flags_fine : ℕ → Bool
flags_fine flags = leb flags 3

abbrev pub normalise_in : ℕ → Bool
normalise_in flags = eqb (flags % 2) 1

abbrev pub lazy_in : ℕ → Bool
lazy_in flags = leb 2 flags

abbrev pub flags_for : Settings → ℕ
flags_for st = cond st.normalise 1 0 + cond st.lazy 2 0
