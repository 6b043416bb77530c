-- Two vectors of one slice, which loops write side by side or one at a time; and there the columns' sums and sums of squares, to which rows are added, however
-- many at a time, and what is made of them. Assumes nothing.
use mathlib.Core.Path.{◌≡◌, refl, sym, ap, ◌∙◌}
use mathlib.Core.List.{List, [], ◌∷◌}
use Prim.Native.Nat.{ℕ, ◌+◌, ◌-◌, ◌*◌, ◌≤◌, ◌<◌}
use native.Mathlib.Omega.{arith}
use lib.ListN.{length, set, length-set}
use lib.Ieee.{Float, nan}
use Rattle.numbers.specs.Ops.{◌⊖◌, ◌⊗◌, ◌⊘◌}
use Rattle.numbers.specs.Root.{root_of}
use Rattle.arrays.specs.Part.{part, put, tab}
use Rattle.arrays.proofs.Part.{tab-ext, get_or-part, length-tab, length-put, put-put-same, put-comm}
use Rattle.arrays.proofs.Part.{put-tab-none, put-tab-more, get_or-put-above, get_or-put-below, get_or-put-tab, put_self}
use Rattle.arrays.specs.Sums.{◌!◌, sum_to, products, plus0, whole}
use Rattle.arrays.proofs.Folds.{fold-ext}
use Rattle.arrays.specs.Vectors.{fill_of, map_of, zip_of}
use Rattle.several.specs.Several.{gathered}
use Rattle.several.proofs.Added.{gathered_none, gathered-on}
use Rattle.column_moments.specs.Stats.{column, column_mean_of, variance_of, deviation_of}
use Rattle.column_moments.specs.Added.{itself, squared, rows_added}

-- s is s₀ with the first n elements of f at a, and behind them those of g at b
pub record Pair (s₀ : List Float) (a b n : ℕ) (f g : ℕ → Float) (s : List Float) : Type 0 where
  pub apart : a + n ≤ b
  pub room : b + n ≤ length s₀
  pub long : length s ≡ length s₀
  pub is : s ≡ put (put s₀ a (tab f n)) b (tab g n)

pair_of : {s₀ : List Float} {a b n : ℕ} {f g : ℕ → Float} → a + n ≤ b → b + n ≤ length s₀ → (t s : List Float) → t ≡ put s₀ a (tab f n)
    → s ≡ put t b (tab g n) → Pair s₀ a b n f g s
pair_of apart room t s e1 e2 = record { apart = apart; room = room; long = rw (e2, length-put, e1, length-put); is = rw (e2, e1) }

-- ---- one element more of both

pub pair-none : (s₀ : List Float) (a b : ℕ) (f g : ℕ → Float) → a ≤ b → b ≤ length s₀ → Pair s₀ a b 0 f g s₀
pair-none s₀ a b f g h l = record {
  apart = omega arith;
  room = omega arith;
  long = refl;
  is = put-tab-none s₀ a f ∙ put-tab-none (put s₀ a (tab f 0)) b g;
}

set-put : (s : List Float) (i : ℕ) (x : Float) (b : ℕ) (ys : List Float) → i < b → set (put s b ys) i x ≡ put (set s i x) b ys
unfolding put
set-put s i x b ys h = sym (put-comm s i (x ∷ []) b ys (omega arith))

module _ {s₀ : List Float} {a b j : ℕ} {f g : ℕ → Float} {s : List Float} (p : Pair s₀ a b j f g s) (apart : a + j < b) (room : b + j < length s₀) where
  -- the next of both are as they were
  first-left : s ! (a + j) ≡ s₀ ! (a + j)
  first-left =
      rw p.is
      (get_or-put-above (put s₀ a (tab f j)) b (tab g j) (a + j) nan apart
      ∙ get_or-put-below s₀ a (tab f j) (a + j) nan (omega (arith, length-tab f j)))

  second-left : s ! (b + j) ≡ s₀ ! (b + j)
  second-left =
      rw p.is
      (get_or-put-below (put s₀ a (tab f j)) b (tab g j) (b + j) nan (omega (arith, length-tab g j))
      ∙ get_or-put-below s₀ a (tab f j) (b + j) nan (omega (arith, length-tab f j)))

  pair-more : (x y : Float) → x ≡ f j → y ≡ g j → Pair s₀ a b (j + 1) f g (set (set s (a + j) x) (b + j) y)
  pair-more x y ex ey = record {
    apart = omega arith;
    room = omega arith;
    long = simp length-set p.long;
    is = rw (p.is, ex, ey)
        (ap (λ (r : List Float). set r (b + j) (g j))
        (set-put (put s₀ a (tab f j)) (a + j) (f j) b (tab g j) apart ∙ ap (λ (r : List Float). put r b (tab g j)) (put-tab-more s₀ a f j))
        ∙ put-tab-more (put s₀ a (tab f (j + 1))) b g j);
  }

-- ---- both written before

module _ {s₀ : List Float} {a b n : ℕ} {f g : ℕ → Float} {s : List Float} (p : Pair s₀ a b n f g s) where
  first-at : (j : ℕ) → j < n → s ! (a + j) ≡ f j
  first-at j l =
      rw p.is
      (get_or-put-above (put s₀ a (tab f n)) b (tab g n) (a + j) nan (omega (arith, p.apart)) ∙ get_or-put-tab s₀ a f n j nan (omega (arith, p.apart, p.room)) l)

  second_at : (j : ℕ) → j < n → s ! (b + j) ≡ g j
  second_at j l = rw p.is (get_or-put-tab (put s₀ a (tab f n)) b g n j nan (rw length-put p.room) l)

  first-again : (h : ℕ → Float) (t : List Float) → t ≡ put s a (tab h n) → Pair s₀ a b n h g t
  first-again h t e = record {
    apart = p.apart;
    room = p.room;
    long = rw e (length-put s a (tab h n) ∙ p.long);
    is = rw (e, p.is)
        (sym (put-comm (put s₀ a (tab f n)) a (tab h n) b (tab g n) (rw length-tab p.apart))
        ∙ ap (λ (r : List Float). put r b (tab g n)) (put-put-same s₀ a (tab f n) (tab h n) (omega (arith, length-tab f n, length-tab h n))));
  }

  second-again : (h : ℕ → Float) (t : List Float) → t ≡ put s b (tab h n) → Pair s₀ a b n f h t
  second-again h t e = record {
    apart = p.apart;
    room = p.room;
    long = rw e (length-put s b (tab h n) ∙ p.long);
    is = rw (e, p.is) (put-put-same (put s₀ a (tab f n)) b (tab g n) (tab h n) (omega (arith, length-tab g n, length-tab h n)));
  }

-- both written a second time
pair-over : {s₀ : List Float} {a b n : ℕ} {f g h k : ℕ → Float} {s t : List Float} → Pair s₀ a b n f g s → t ≡ put (put s a (tab h n)) b (tab k n)
    → Pair s₀ a b n h k t
pair-over {a = a} {n = n} {h = h} {k} {s} {t} p e = second-again (first-again p h (put s a (tab h n)) refl) k t e

-- ---- rows added to the sums

-- the sums at a and b with `count` rows added
abbrev pub WithRows : List Float → ℕ → ℕ → List Float → ℕ → ℕ → ℕ → List Float → Type 0
WithRows s₀ a b m at cols count s = Pair s₀ a b cols (gathered itself s₀ a m at cols count) (gathered squared s₀ b m at cols count) s

-- a turn of a loop over the columns
pub column-added : {s₀ : List Float} {a b j : ℕ} {s : List Float} (m : List Float) (at cols count : ℕ)
    → Pair s₀ a b j (gathered itself s₀ a m at cols count) (gathered squared s₀ b m at cols count) s → a + j < b → b + j < length s₀ → {x y : Float}
    → x ≡ gathered itself s a m at cols count j → y ≡ gathered squared s b m at cols count j
    → Pair s₀ a b (j + 1) (gathered itself s₀ a m at cols count) (gathered squared s₀ b m at cols count) (set (set s (a + j) x) (b + j) y)
unfolding gathered
column-added m at cols count p apart room {x} {y} ex ey =
    pair-more p apart room x y (rw (first-left p apart room) at ex) (rw (second-left p apart room) at ey)

-- what `rows_added` makes
with_rows : {s₀ : List Float} {a b : ℕ} (m : List Float) (at cols count : ℕ) → a + cols ≤ b → b + cols ≤ length s₀ → (s : List Float)
    → s ≡ rows_added s₀ a b m at cols count → WithRows s₀ a b m at cols count s
unfolding rows_added
with_rows m at cols count apart room s e = pair_of apart room _ s refl e

-- a loop over the rows: none, and `count` more
pub rows_none : (s : List Float) (a b : ℕ) (m : List Float) (at cols : ℕ) → a + cols ≤ b → b + cols ≤ length s → WithRows s a b m at cols 0 s
rows_none s a b m at cols apart room =
    pair_of apart room s s (sym (put_self s a _ cols nan (omega arith) (λ j l. sym (gathered_none itself s a m at cols j))))
    (sym (put_self s b _ cols nan room (λ j l. sym (gathered_none squared s b m at cols j))))

pub rows_on : {s₀ : List Float} {a b : ℕ} (m : List Float) (at cols i count : ℕ) {s : List Float} → WithRows s₀ a b m at cols i s → (t : List Float) (place : ℕ)
    → place ≡ at + i * cols → t ≡ rows_added s a b m place cols count → WithRows s₀ a b m at cols (i + count) t
unfolding rows_added
rows_on {s₀} {a} {b} m at cols i count {s} p t place e q =
    pair-over p (q ∙ ap (λ (r : List Float). put (put s a r) b (tab (gathered squared s b m place cols count) cols))
    (tab-ext _ _ cols (λ j l. gathered-on itself itself s₀ s a m m at cols i count j (first-at p j l) (λ k h. refl) place e))
    ∙ ap (put (put s a (tab (gathered itself s₀ a m at cols (i + count)) cols)) b)
    (tab-ext _ _ cols (λ j l. gathered-on squared squared s₀ s b m m at cols i count j (second_at p j l) (λ k h. refl) place e)))

-- ---- the columns' sums over all rows

abbrev column_sum : List Float → ℕ → ℕ → ℕ → Float
column_sum m cols rows j = sum_to plus0 (column m cols j) rows

abbrev column_squares : List Float → ℕ → ℕ → ℕ → Float
column_squares m cols rows j = products plus0 (column m cols j) (column m cols j) rows

-- over sums of +0: the first n rows, and the others
pub all-rows : {s₀ : List Float} {a b cols : ℕ} (m : List Float) (rows n : ℕ) → n ≤ rows → a + cols ≤ b → b + cols ≤ length s₀ → (s₁ s₂ s₃ s₄ : List Float)
    → s₁ ≡ put s₀ a (fill_of plus0 cols) → s₂ ≡ put s₁ b (fill_of plus0 cols) → s₃ ≡ rows_added s₂ a b m 0 cols n → s₄ ≡ rows_added s₃ a b m (n * cols) cols (rows - n)
    → Pair s₀ a b cols (column_sum m cols rows) (column_squares m cols rows) s₄
unfolding fill_of gathered
all-rows {s₀} {a} {b} {cols} m rows n h apart room s₁ s₂ s₃ s₄ e1 e2 e3 e4 =
    let p : Pair s₀ a b cols (λ k. plus0) (λ k. plus0) s₂ = pair_of apart room s₁ s₂ e1 e2 in
    let first = with_rows m 0 cols n apart (omega (arith, p.long)) s₃ e3 in
    let all = rows_on m 0 cols n (rows - n) first s₄ (n * cols) (omega arith) e4 in
    let e : n + (rows - n) ≡ rows = omega arith in
    pair-over p (rw e at all.is
    ∙ ap (λ (r : List Float). put (put s₂ a r) b (tab (gathered squared s₂ b m 0 cols rows) cols)) (tab-ext _ _ cols (λ j l. from-none itself a j (first-at p j l)))
    ∙ ap (put (put s₂ a (tab (column_sum m cols rows) cols)) b) (tab-ext _ _ cols (λ j l. from-none squared b j (second_at p j l)))) where
      from-none : (f : ℕ → Float → Float) (out j : ℕ) → s₂ ! (out + j) ≡ plus0 → gathered f s₂ out m 0 cols rows j ≡ sum_to plus0 (λ i. f i (column m cols j i)) rows
      from-none f out j begun =
          rw begun (fold-ext _ _ _ _ rows (λ k l.
          let same : 0 + k * cols + j ≡ k * cols + j = omega arith in
          ap (λ (r : ℕ). f k (m ! r)) same))

-- ---- what is made of them

module _ {s₀ : List Float} {a b : ℕ} (m : List Float) (rows cols : ℕ) (d : Float) (e : d ≡ whole rows) {s : List Float}
    (p : Pair s₀ a b cols (column_sum m cols rows) (column_squares m cols rows) s) where
  means-made : (t : List Float) → t ≡ put s a (map_of (λ (v : Float). v ⊘ d) cols (part s a cols))
      → Pair s₀ a b cols (column_mean_of m rows cols) (column_squares m cols rows) t
  unfolding map_of column_mean_of
  means-made t et =
      first-again p (column_mean_of m rows cols) t (et ∙ ap (put s a) (tab-ext _ _ cols (λ j l. rw (e, get_or-part s a cols j nan l, first-at p j l))))

  pub moments-made : (t u : List Float) → t ≡ put s a (map_of (λ (v : Float). v ⊘ d) cols (part s a cols))
      → u ≡ put t b (zip_of (λ (v mu : Float). root_of (v ⊘ d ⊖ mu ⊗ mu)) cols (part t b cols) (part t a cols))
      → Pair s₀ a b cols (column_mean_of m rows cols) (deviation_of m rows cols) u
  unfolding zip_of column_mean_of variance_of deviation_of
  moments-made t u et eu =
      let q = means-made t et in
      second-again q (deviation_of m rows cols) u
      (eu ∙ ap (put t b) (tab-ext _ _ cols (λ j l.
      rw (e, get_or-part t a cols j nan l, get_or-part t b cols j nan l, first-at q j l, second_at q j l))))
