-- 01's ranges of the settings, and gamma, padding and lambda in the Rust's order of operations. Definitions only.
use Rattle.std.specs.Prelude.{ℕ, ◌≤◌, ◌≡◌, Bool, true, false, cond, ◌&&◌, T, leb, Float}
use Rattle.std.specs.Float.Ieee.{le, is_nan}
use Rattle.std.specs.Float.Ieee.Scale.{finite}
use Rattle.numbers.specs.Ops.{◌⊕◌, ◌⊖◌, ◌⊗◌, ◌⊘◌, f64}
use Rattle.numbers.specs.Order.{maximum_of}
use Rattle.numbers.specs.Root.{root_of}
use Rattle.numbers.specs.Constants.{one, epsilon}
use Rattle.arrays.specs.Sums.{whole}
use Rattle.settings.specs.declared.Settings.{Settings}
use Rattle.settings.specs.declared.Terms.{Terms}

-- from 0, of either sign, to `most`; a NaN is not
unfoldable pub range_of : Float → Float → Bool
range_of x most = le (f64 0) x && le x most

-- R and C are not looked at unless lazy
unfoldable pub panels_of : Settings → Bool
panels_of st =
    cond st.lazy (leb 1 st.panel_rows && leb st.panel_rows 256 && leb 1 st.panel_cols && leb st.panel_cols 32) true

abbrev pub million : Float
million = f64 0x412e_8480_0000_0000

-- the largest finite number
abbrev pub largest : Float
largest = f64 0x7fef_ffff_ffff_ffff

unfoldable pub allowed_of : Settings → Bool
allowed_of st =
    range_of st.alpha million && range_of st.l1_ratio one && range_of st.tol largest && leb st.max_iter 1000 && panels_of st

-- ---- the same in 01's words, as what holds and not as a test

-- no NaN, and from 0, of either sign, to `top`
pub record InRange (top x : Float) : Type 0 where
  pub number : is_nan x ≡ false
  pub least : T (le (f64 0) x)
  pub most : T (le x top)

-- no NaN, finite, and at least 0
pub record FiniteRange (x : Float) : Type 0 where
  pub number : is_nan x ≡ false
  pub finite : finite x ≡ true
  pub least : T (le (f64 0) x)

-- the bounds on R and C where lazy
pub record Panels (st : Settings) : Type 0 where
  pub rows-least : 1 ≤ st.panel_rows
  pub rows-most : st.panel_rows ≤ 256
  pub columns-least : 1 ≤ st.panel_cols
  pub columns-most : st.panel_cols ≤ 32

-- every setting is in its range
pub record Allowed (st : Settings) : Type 0 where
  pub alpha : InRange million st.alpha
  pub ratio : InRange one st.l1_ratio
  pub tol : FiniteRange st.tol
  pub max_iter : st.max_iter ≤ 1000
  pub panels : st.lazy ≡ true → Panels st

-- the same settings with another R and C
abbrev pub with_panels : ℕ → ℕ → Settings → Settings
with_panels R C st = record {
  alpha = st.alpha;
  l1_ratio = st.l1_ratio;
  tol = st.tol;
  max_iter = st.max_iter;
  panel_rows = R;
  panel_cols = C;
  normalise = st.normalise;
  lazy = st.lazy;
}

-- l1_reg, l2_reg
unfoldable pub l1_of : Settings → ℕ → Float
l1_of st n = st.alpha ⊗ st.l1_ratio ⊗ whole n

unfoldable pub l2_of : Settings → ℕ → Float
l2_of st n = st.alpha ⊗ (one ⊖ st.l1_ratio) ⊗ whole n

unfoldable pub gamma_of : Float → Float
gamma_of l2 = one ⊘ root_of (one ⊕ l2)

unfoldable pub terms_of : Settings → ℕ → Terms
terms_of st n =
    let gamma = gamma_of (l2_of st n) in
    record { gamma = gamma; padding = gamma ⊗ root_of (l2_of st n); lambda = maximum_of (l1_of st n ⊗ gamma) epsilon }
