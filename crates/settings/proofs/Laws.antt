-- Settings are allowed just where each is in 01's range. Assumes nothing.
use mathlib.Core.Path.{◌≡◌, refl, subst}
use mathlib.Core.Logic.{◌⊎◌, inl, inr}
use mathlib.Core.Bool.{Bool, true, false, ◌&&◌, cond}
use Prim.Native.Nat.{ℕ}
use lib.Dec.{T, leb, leb→le, not_T}
use lib.Ieee.{Float, nan, inf, fin, binary64, fits, le, is_nan}
use lib.Ieee.Bits.{is_true, is_false}
use lib.Ieee.Fits.{and_l, and_r, and_i}
use borrow.Author.Tests.{le-leb}
use Rattle.numbers.specs.Ops.{f64}
use Rattle.numbers.specs.Constants.{one}
use Rattle.settings.specs.declared.Settings.{Settings}
use Rattle.settings.specs.Settings.{range_of, million, largest, panels_of, allowed_of, InRange, FiniteRange, Panels, Allowed, with_panels}
use Rattle.settings.proofs.Largest.{finite-most, most-finite}

-- ---- alpha, l1_ratio and tol

-- what is below something is no NaN
le-number : (x y : Float) → T (le x y) → is_nan x ≡ false
unfolding le is_nan
le-number nan y h = absurd h
le-number (inf s) y h = refl
le-number (fin s m e) y h = refl

range-says : (top x : Float) → T (range_of x top) → InRange top x
unfolding range_of
range-says top x t =
    let high = and_r (le (f64 0) x) (le x top) t in
    record { number = le-number x top high; least = and_l (le (f64 0) x) (le x top) t; most = high }

range-holds : {top x : Float} → InRange top x → T (range_of x top)
unfolding range_of
range-holds {top} {x} h = and_i (le (f64 0) x) (le x top) h.least h.most

tolerance-says : (x : Float) → T (range_of x largest) → FiniteRange x
tolerance-says x t =
    let r = range-says largest x t in
    record { number = r.number; finite = most-finite x r.least r.most; least = r.least }

tolerance-holds : {x : Float} → T (fits binary64 x) → FiniteRange x → T (range_of x largest)
tolerance-holds {x} f h = range-holds (record { number = h.number; least = h.least; most = finite-most x f h.finite })

-- ---- R and C

panels-say : (st : Settings) → T (panels_of st) → st.lazy ≡ true → Panels st
unfolding panels_of
panels-say st t q =
    let r = st.panel_rows in
    let c = st.panel_cols in
    let all : T (leb 1 r && leb r 256 && leb 1 c && leb c 32) = rw q at t in
    let three = and_l (leb 1 r && leb r 256 && leb 1 c) (leb c 32) all in
    let two = and_l (leb 1 r && leb r 256) (leb 1 c) three in
    record {
      rows-least = leb→le 1 r (and_l (leb 1 r) (leb r 256) two);
      rows-most = leb→le r 256 (and_r (leb 1 r) (leb r 256) two);
      columns-least = leb→le 1 c (and_r (leb 1 r && leb r 256) (leb 1 c) three);
      columns-most = leb→le c 32 (and_r (leb 1 r && leb r 256 && leb 1 c) (leb c 32) all);
    }

panels-hold : (st : Settings) → (st.lazy ≡ true → Panels st) → T (panels_of st)
unfolding panels_of
panels-hold st h = go st.lazy h where
  r : ℕ
  r = st.panel_rows

  c : ℕ
  c = st.panel_cols

  go : (b : Bool) → (b ≡ true → Panels st) → T (cond b (leb 1 r && leb r 256 && leb 1 c && leb c 32) true)
  go true h =
      let p = h refl in
      rw (le-leb 1 r p.rows-least, le-leb r 256 p.rows-most, le-leb 1 c p.columns-least, le-leb c 32 p.columns-most) tt
  go false h = tt

-- ---- all of them

pub allowed-says : (st : Settings) → T (allowed_of st) → Allowed st
unfolding allowed_of
allowed-says st t =
    let alpha = range_of st.alpha million in
    let ratio = range_of st.l1_ratio one in
    let tol = range_of st.tol largest in
    let most = leb st.max_iter 1000 in
    let t₄ = and_l (alpha && ratio && tol && most) (panels_of st) t in
    let t₃ = and_l (alpha && ratio && tol) most t₄ in
    let t₂ = and_l (alpha && ratio) tol t₃ in
    record {
      alpha = range-says million st.alpha (and_l alpha ratio t₂);
      ratio = range-says one st.l1_ratio (and_r alpha ratio t₂);
      tol = tolerance-says st.tol (and_r (alpha && ratio) tol t₃);
      max_iter = leb→le st.max_iter 1000 (and_r (alpha && ratio && tol) most t₄);
      panels = panels-say st (and_r (alpha && ratio && tol && most) (panels_of st) t);
    }

-- and the other way, for a tol that is an f64: nothing else is asked
pub allowed-when : (st : Settings) → T (fits binary64 st.tol) → Allowed st → T (allowed_of st)
unfolding allowed_of
allowed-when st f h =
    rw (
      is_true (range_of st.alpha million) (range-holds h.alpha),
      is_true (range_of st.l1_ratio one) (range-holds h.ratio),
      is_true (range_of st.tol largest) (tolerance-holds f h.tol),
      le-leb st.max_iter 1000 h.max_iter,
      is_true (panels_of st) (panels-hold st h.panels),
    ) tt

a-nan : (x : Float) → is_nan x ≡ false → x ≡ nan → ⊥
unfolding is_nan
a-nan x h e = subst T (subst (λ (v : Float). is_nan v ≡ false) e h) tt

pub nan-refused : (st : Settings) → (st.alpha ≡ nan) ⊎ (st.l1_ratio ≡ nan) ⊎ (st.tol ≡ nan) → allowed_of st ≡ false
nan-refused st n = is_false (allowed_of st) (not_T (allowed_of st) (λ t. go n (allowed-says st t))) where
  go : (st.alpha ≡ nan) ⊎ (st.l1_ratio ≡ nan) ⊎ (st.tol ≡ nan) → Allowed st → ⊥
  go (inl e) h = a-nan _ h.alpha.number e
  go (inr (inl e)) h = a-nan _ h.ratio.number e
  go (inr (inr e)) h = a-nan _ h.tol.number e

-- where not lazy R and C do not matter
pub panels-not-looked-at : (st : Settings) (R C : ℕ) → st.lazy ≡ false → allowed_of (with_panels R C st) ≡ allowed_of st
unfolding allowed_of panels_of
panels-not-looked-at st R C e = rw e
