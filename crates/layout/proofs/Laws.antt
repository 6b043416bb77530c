-- The scratch need of a fit: 01's formula is the slots' sum, small sizes have small products, and the most that is ever needed. Assumes nothing.
use mathlib.Core.Path.{◌≡◌, refl}
use mathlib.Core.Bool.{Bool, true, false}
use Prim.Native.Nat.{ℕ, ◌+◌, ◌*◌, ◌≤◌, ◌<◌}
use native.Mathlib.Nat.{mul-le-mul}
use native.Mathlib.Omega.{arith}
use lib.Dec.{lit≤}
use Rattle.std.proofs.lemmas.Bool.{true≢false, false≢true}
use Rattle.settings.specs.declared.Settings.{Settings}
use Rattle.settings.specs.Settings.{Panels}
use Rattle.layout.specs.declared.Sizes.{Sizes}
use Rattle.layout.proofs.Store.{within, apart}
use Rattle.layout.specs.Slots.{Slot, num, size, off, words, Panelled}
use Rattle.layout.proofs.Slots.{table, need-is}
use Rattle.layout.specs.Need.{sizes_of, need_of, Small}

-- ---- every slot lies within the needed words, and no two have a word in common

pub slots-within : (sh : Sizes) (w : Slot) → off sh w + size sh w ≤ words sh
slots-within sh w = rw need-is at (within (table sh) w)

pub slots_apart : (sh : Sizes) (w u : Slot) → num w < num u → off sh w + size sh w ≤ off sh u
slots_apart sh w u l = apart (table sh) w u l

-- ---- small sizes

pub small-sizes : (n p : ℕ) (st : Settings) → n ≤ 4096 → p ≤ 64 → (st.lazy ≡ true → Panels st) → Small (sizes_of n p st)
unfolding sizes_of
small-sizes n p st hn hp g = go st.lazy refl where
  go : (b : Bool) → st.lazy ≡ b → Small (sizes_of n p st)
  go true q =
      let h = g q in
      rw q (record { columns = hp; design = omega arith; stored = lit≤ tt; panel-rows = h.rows-most; panel-columns = h.columns-most })
  go false q = rw q (record { columns = hp; design = omega arith; stored = omega arith; panel-rows = lit≤ tt; panel-columns = lit≤ tt })

-- the sizes of a fit; a stored design has all its rows
pub record SizesAre (n p : ℕ) (sh : Sizes) : Type 0 where
  pub rows : sh.n ≡ n
  pub columns : sh.p ≡ p
  pub all : sh.k ≡ n + p
  pub stored : sh.lazy ≡ false → sh.stored ≡ sh.k

pub sizes-known : (n p : ℕ) (st : Settings) → SizesAre n p (sizes_of n p st)
unfolding sizes_of
sizes-known n p st = go st.lazy refl where
  go : (b : Bool) → st.lazy ≡ b → SizesAre n p (sizes_of n p st)
  go true q = rw q (record { rows = refl; columns = refl; all = refl; stored = λ h. absurd (true≢false h) })
  go false q = rw q (record { rows = refl; columns = refl; all = refl; stored = λ h. refl })

-- the panels of a lazy fit have rows and columns
pub panelled : (n p : ℕ) (st : Settings) → (st.lazy ≡ true → Panels st) → Panelled (sizes_of n p st)
unfolding sizes_of
panelled n p st g = go st.lazy refl where
  go : (b : Bool) → st.lazy ≡ b → Panelled (sizes_of n p st)
  go true q = rw q (record { rows = λ z. (g q).rows-least; columns = λ z. (g q).columns-least })
  go false q = rw q (record { rows = λ z. absurd (false≢true z); columns = λ z. absurd (false≢true z) })

-- their products, each of which omega takes as one unknown
pub record Products (sh : Sizes) : Type 0 where
  pub panel : sh.pr * sh.pc ≤ 8192
  pub sums : sh.pc * sh.pc ≤ 1024
  pub gram : sh.p * sh.p ≤ 4096
  pub stored : sh.stored * sh.p ≤ 266240

pub products : (sh : Sizes) → Small sh → Products sh
products sh h = record {
  panel = mul-le-mul h.panel-rows h.panel-columns;
  sums = mul-le-mul h.panel-columns h.panel-columns;
  gram = mul-le-mul h.columns h.columns;
  stored = mul-le-mul h.stored h.columns;
}

-- ---- the need

pub need-agrees : (n p : ℕ) (st : Settings) → words (sizes_of n p st) ≡ need_of n p st
unfolding words sizes_of need_of
need-agrees n p st = go st.lazy refl where
  go : (b : Bool) → st.lazy ≡ b → words (sizes_of n p st) ≡ need_of n p st
  go true q = rw q (omega arith)
  go false q = rw q (omega arith)

-- what serves an eager fit of the sizes N and P serves every smaller one, and a lazy one whose panels take no more than the design
need-up : (n p N P : ℕ) (st : Settings) → n ≤ N → p ≤ P
    → (st.lazy ≡ true → 2 * (st.panel_rows * st.panel_cols) + st.panel_cols * st.panel_cols ≤ (N + P) * P)
    → need_of n p st ≤ P * P + 40 * P + 4 * (N + P) + (N + P) * P
unfolding need_of
need-up n p N P st hn hp g = go st.lazy refl where
  gram : p * p ≤ P * P
  gram = mul-le-mul hp hp

  go : (b : Bool) → st.lazy ≡ b → need_of n p st ≤ P * P + 40 * P + 4 * (N + P) + (N + P) * P
  go true q = rw q (omega (arith, gram, g q))
  go false q =
      let k : n + p ≤ N + P = omega arith in
      rw q (omega (arith, gram, mul-le-mul k hp))

pub need-most : (n p : ℕ) (st : Settings) → n ≤ 4096 → p ≤ 64 → (st.lazy ≡ true → Panels st) → need_of n p st ≤ 289536
need-most n p st hn hp g = need-up n p 4096 64 st hn hp panels where
  panels : st.lazy ≡ true → 2 * (st.panel_rows * st.panel_cols) + st.panel_cols * st.panel_cols ≤ 266240
  panels q =
      let h = g q in
      omega (arith, mul-le-mul h.rows-most h.columns-most, mul-le-mul h.columns-most h.columns-most)

-- the program's sizes, with its panels of 32 rows and 8 columns
pub program-most : (n p : ℕ) (st : Settings) → n ≤ 256 → p ≤ 16 → st.panel_rows ≡ 32 → st.panel_cols ≡ 8 → need_of n p st ≤ 6336
program-most n p st hn hp r c = need-up n p 256 16 st hn hp (λ q. rw (r, c) (lit≤ tt))
