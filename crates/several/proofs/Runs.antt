-- A loop that writes a vector in several runs at a time, an element of each in a turn. Assumes nothing.
use mathlib.Core.Path.{◌≡◌, refl, sym, ◌∙◌, subst}
use mathlib.Core.Logic.{◌⊎◌, inl, inr}
use mathlib.Core.List.{List}
use Prim.Native.Nat.{ℕ, zero, suc, ◌+◌, ◌-◌, ◌*◌, ◌≤◌, ◌<◌}
use native.Mathlib.Nat.{add-zero, zero-mul, suc-mul, mul-le-mul_right}
use native.Mathlib.Numerals.{add-one}
use native.Mathlib.Decide.{dec_lt, ℕ_discrete}
use native.Mathlib.Omega.{arith}
use lib.ListN.{length, set, length-set}
use lib.Seq.{get_or-set_other, get_or-set_same, ext_get_or}
use lib.Ieee.{Float, nan}
use Rattle.arrays.specs.Part.{part, put, tab}
use Rattle.arrays.proofs.Part.{Apart, apart_of, length-tab, length-put, length_part, get_or-part, get_or-put-above, get_or-put-below, get_or-put-tab}
use Rattle.arrays.specs.Sums.{◌!◌}
use Rattle.arrays.proofs.Turns.{Made, made_more}
use Rattle.several.specs.Several.{spread_of}

-- s is s₀ but for the n elements from `out`
pub record But (s₀ : List Float) (out n : ℕ) (s : List Float) : Type 0 where
  pub long : length s ≡ length s₀
  pub left : (q : ℕ) → (q < out) ⊎ (out + n ≤ q) → s ! q ≡ s₀ ! q

-- they are `count` runs of e, of each of which the first i are those of f, and of k runs one more
pub record Runs (s₀ : List Float) (out count e : ℕ) (f : ℕ → Float) (s : List Float) (i k : ℕ) : Type 0 where
  pub within : i ≤ e
  pub but : But s₀ out (count * e) s
  pub made : (a q : ℕ) → a < count → q < i → s ! (out + (a * e + q)) ≡ f (a * e + q)
  pub more : (a : ℕ) → a < k → s ! (out + (a * e + i)) ≡ f (a * e + i)

but-set : {s₀ : List Float} {out n : ℕ} {s : List Float} → But s₀ out n s → (r : ℕ) (x : Float) → r < n → But s₀ out n (set s (out + r) x)
but-set {out = out} {n} {s} b r x h = record {
  long = simp length-set b.long;
  left = λ q o. get_or-set_other s (out + r) q x nan (off q o) ∙ b.left q o;
} where
  off : (q : ℕ) → (q < out) ⊎ (out + n ≤ q) → q ≡ out + r → ⊥
  off q (inl l) e = omega arith
  off q (inr l) e = omega arith

-- an element that is f's stays so where another, or itself, is written
set_keeps : (s : List Float) (out : ℕ) (f : ℕ → Float) (r : ℕ) (x : Float) → x ≡ f r → out + r < length s → (q : ℕ) → s ! (out + q) ≡ f q
    → set s (out + r) x ! (out + q) ≡ f q
set_keeps s out f r x e l q h = go (ℕ_discrete q r) where
  go : Dec (q ≡ r) → set s (out + r) x ! (out + q) ≡ f q
  go (yes i) = rw i (get_or-set_same s (out + r) x nan l ∙ e)
  go (no i) = get_or-set_other s (out + r) (out + q) x nan (λ (j : out + q ≡ out + r). i (omega arith)) ∙ h

module _ {s₀ : List Float} {out n : ℕ} {s : List Float} (b : But s₀ out n s) where
  pub but-kept : (a k : ℕ) → (out < a + k → out + n ≤ a) → a + k ≤ length s₀ → part s a k ≡ part s₀ a k
  but-kept a k off l =
      ext_get_or nan _ _ (length_part s a k (rw b.long l) ∙ sym (length_part s₀ a k l))
      (λ q h.
      let i : q < k = rw (length_part s a k (rw b.long l)) at h in
      get_or-part s a k q nan i ∙ b.left (a + q) (side (apart_of out n a k off) q i) ∙ sym (get_or-part s₀ a k q nan i)) where
        side : Apart out n a k → (q : ℕ) → q < k → (a + q < out) ⊎ (out + n ≤ a + q)
        side (inl h) q i = inl (omega arith)
        side (inr h) q i = inr (omega arith)

-- where all of them are those of f
but-all : {s₀ : List Float} {out n : ℕ} {s : List Float} → But s₀ out n s → (f : ℕ → Float) → ((r : ℕ) → r < n → s ! (out + r) ≡ f r) → out + n ≤ length s₀
    → s ≡ put s₀ out (tab f n)
but-all {s₀} {out} {n} {s} b f made room =
    ext_get_or nan s _ (b.long ∙ sym (length-put s₀ out (tab f n))) (λ q l. go q (dec_lt q out) (dec_lt q (out + n))) where
      go : (q : ℕ) → Dec (q < out) → Dec (q < out + n) → s ! q ≡ put s₀ out (tab f n) ! q
      go q (yes k) e = b.left q (inl k) ∙ sym (get_or-put-above s₀ out (tab f n) q nan k)
      go q (no k) (yes e) =
          let r : q ≡ out + (q - out) = omega (arith, k) in
          let l : q - out < n = omega (arith, k) in
          subst (λ (j : ℕ). s ! j ≡ put s₀ out (tab f n) ! j) (sym r) (made (q - out) l ∙ sym (get_or-put-tab s₀ out f n (q - out) nan room l))
      go q (no k) (no e) =
          let l : out + n ≤ q = omega (arith, e) in
          b.left q (inr l) ∙ sym (get_or-put-below s₀ out (tab f n) q nan (omega (arith, length-tab f n)))

-- ---- in runs

pub runs_none : (s₀ : List Float) (out count e : ℕ) (f : ℕ → Float) → Runs s₀ out count e f s₀ 0 0
runs_none s₀ out count e f = record {
  within = omega arith;
  but = record { long = refl; left = λ q o. refl };
  made = λ a q k l. absurd (omega arith);
  more = λ a l. absurd (omega arith);
}

-- element i of run k lies within the runs
pub run_room : (count e i k : ℕ) → i < e → k < count → k * e + i < count * e
run_room count e i k h l = omega (arith, suc-mul k e, mul-le-mul_right e l)

-- what holds of each element of each run holds of all of them
in-runs : (P : ℕ → Type 0) (count e : ℕ) → ((a q : ℕ) → a < count → q < e → P (a * e + q)) → (r : ℕ) → r < count * e → P r
in-runs P zero e h r l = absurd (omega (arith, zero-mul e))
in-runs P (suc count) e h r l = go (in-runs P count e (λ a q i j. h a q (omega arith) j) r) (dec_lt r (count * e)) where
  go : (r < count * e → P r) → Dec (r < count * e) → P r
  go before (yes k) = before k
  go before (no k) =
      let i : count * e + (r - count * e) ≡ r = omega (arith, k) in
      subst P i (h count (r - count * e) (omega arith) (omega (arith, k, suc-mul count e)))

module _ {s₀ : List Float} {out count e : ℕ} {f : ℕ → Float} {s : List Float} {i k : ℕ} (d : Runs s₀ out count e f s i k) where
  runs-more : (x : Float) → i < e → k < count → out + count * e ≤ length s₀ → x ≡ f (k * e + i) → Runs s₀ out count e f (set s (out + (k * e + i)) x) i (k + 1)
  runs-more x h l room q =
      let r = k * e + i in
      let in-range = run_room count e i k h l in
      let there : out + r < length s = omega (arith, d.but.long) in
      record {
        within = d.within;
        but = but-set d.but r x in-range;
        made = λ a j u v. set_keeps s out f r x q there (a * e + j) (d.made a j u v);
        more = λ a u. go there a u (dec_lt a k);
      } where
        go : out + (k * e + i) < length s → (a : ℕ) → a < k + 1 → Dec (a < k) → set s (out + (k * e + i)) x ! (out + (a * e + i)) ≡ f (a * e + i)
        go there a u (yes v) = set_keeps s out f (k * e + i) x q there (a * e + i) (d.more a v)
        go there a u (no v) =
            let w : a ≡ k = omega (arith, v) in
            rw w (get_or-set_same s (out + (k * e + i)) x nan there ∙ q)

  -- every run has its element
  runs-turn : count ≤ k → i < e → Runs s₀ out count e f s (i + 1) 0
  runs-turn h l = record {
    within = omega arith;
    but = d.but;
    made = λ a q u v. go a q u v (dec_lt q i);
    more = λ a u. absurd (omega arith);
  } where
    go : (a q : ℕ) → a < count → q < i + 1 → Dec (q < i) → s ! (out + (a * e + q)) ≡ f (a * e + q)
    go a q u v (yes w) = d.made a q u w
    go a q u v (no w) =
        let j : q ≡ i = omega (arith, w) in
        rw j (d.more a (omega arith))

  pub runs-all : e ≤ i → out + count * e ≤ length s₀ → s ≡ put s₀ out (tab f (count * e))
  runs-all h room = but-all d.but f (in-runs (λ (r : ℕ). s ! (out + r) ≡ f r) count e (λ a q u v. d.made a q u (omega arith))) room

-- a turn that writes one element to each run: numbers that lie e from each other
pub runs-spread : {s₀ : List Float} {out count e : ℕ} {f : ℕ → Float} {s : List Float} {i : ℕ} → Runs s₀ out count e f s i 0 → (g : ℕ → Float) (t : List Float)
    → t ≡ spread_of s (out + i) e g count → i < e → out + count * e ≤ length s₀ → ((k : ℕ) → k < count → g k ≡ f (k * e + i)) → Runs s₀ out count e f t (i + 1) 0
unfolding spread_of
runs-spread {s₀} {out} {count} {e} {f} {s} {i} d g t q h room is = rw q (runs-turn (go count (omega arith)) (omega arith) h) where
  go : (k : ℕ) → k ≤ count → Runs s₀ out count e f (spread_of s (out + i) e g k) i k
  go zero l = d
  go (suc k) l =
      let at : out + i + k * e ≡ out + (k * e + i) = omega arith in
      rw (at, ← add-one k) (runs-more (go k (omega arith)) (g k) h l room (is k l))

-- a turn that writes several, one next to another
pub made-spread : {s₀ : List Float} {out n : ℕ} {f : ℕ → Float} {s : List Float} {i : ℕ} → Made s₀ out n f s i → (g : ℕ → Float) (count : ℕ) (t : List Float)
    → t ≡ spread_of s (out + i) 1 g count → i + count ≤ n → ((k : ℕ) → k < count → g k ≡ f (i + k)) → Made s₀ out n f t (i + count)
unfolding spread_of
made-spread {s₀} {out} {n} {f} {s} {i} d g count t q h is = rw q (go count (omega arith)) where
  go : (k : ℕ) → k ≤ count → Made s₀ out n f (spread_of s (out + i) 1 g k) (i + k)
  go zero l = rw add-zero d
  go (suc k) l =
      let at : out + i + k * 1 ≡ out + (i + k) = omega arith in
      let next : i + suc k ≡ i + k + 1 = omega arith in
      rw (at, next) (made_more (go k (omega arith)) (g k) (omega arith) (is k l))
