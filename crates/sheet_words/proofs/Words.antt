-- The words of a header and of a place, as they are written. Assumes nothing.
use mathlib.Core.Path.{◌≡◌}
use mathlib.Core.List.{List, [], ◌∷◌, append-nil}
use Prim.Native.Nat.{ℕ, suc, ◌-◌, ◌≤◌}
use native.Mathlib.Omega.{arith}
use lib.ListN.{length, set, drop_of_length-le}
use borrow.Rule.Slice.PartMut.{put_mid}
use Rattle.sheet_header.specs.declared.Header.{Header}
use Rattle.c_values.specs.Settings.{settings_words}
use Rattle.sheet_words.specs.Words.{header-words, header_words}

-- n and p, and the settings' words in the part behind them
pub header-written : (h : Header) (l : List ℕ) {ws : List ℕ} → length l ≡ header-words → ws ≡ settings_words h.settings
    → let s = set (set l 0 h.n) 1 h.p in put_mid 2 (length s - 2) s ws ≡ header_words h
unfolding header_words
header-written h [] e q = absurd (omega arith)
header-written h (a ∷ []) e q = absurd (omega arith)
header-written h (a ∷ b ∷ l) {ws} e q =
    let k : length l ≤ suc (suc (length l)) - 2 = omega arith in
    rw (drop_of_length-le l k, append-nil ws, q)
