-- Loops over the elements of vectors: one that writes f 0, f 1, .. one after another, with what holds at its head, one turn and its end; and the turn of one
-- that sums products. Assumes nothing.
use mathlib.Core.Path.{◌≡◌, refl, sym, ap, ◌∙◌}
use mathlib.Core.Logic.{◌⊎◌, inl, inr, ⊎_elim}
use mathlib.Core.List.{List}
use Prim.Native.Nat.{ℕ, ◌+◌, ◌≤◌, ◌<◌}
use native.Mathlib.Decide.{dec_lt}
use native.Mathlib.Omega.{arith}
use lib.ListN.{length, get_or, set, length-set}
use lib.Ieee.{Float, nan}
use Rattle.numbers.specs.Ops.{◌⊕◌, ◌⊗◌}
use Rattle.arrays.specs.Part.{part, put, tab}
use Rattle.arrays.proofs.Part.{length-tab, length-put, get_or-part, put-tab-none, put-tab-more, put-put-same}
use Rattle.arrays.proofs.Part.{part-put-apart, get_or-put-above, get_or-put-below, apart_of, apart-fewer, length_part, tab-all, put_all}
use Rattle.arrays.specs.Sums.{◌!◌, products}
use Rattle.arrays.proofs.Folds.{fold-turn}
use Rattle.arrays.specs.Vectors.{Clear}

-- the first i of n elements from `out` are written, and all else is as it was in s₀
pub record Made (s₀ : List Float) (out n : ℕ) (f : ℕ → Float) (s : List Float) (i : ℕ) : Type 0 where
  pub within : i ≤ n
  pub long : length s ≡ length s₀
  pub is : s ≡ put s₀ out (tab f i)

pub made_none : (s₀ : List Float) (out n : ℕ) (f : ℕ → Float) → Made s₀ out n f s₀ 0
made_none s₀ out n f = record { within = omega arith; long = refl; is = put-tab-none s₀ out f }

pub made-first : (s₀ : List Float) (out n : ℕ) (f : ℕ → Float) (s : List Float) (i : ℕ) → i ≤ n → s ≡ put s₀ out (tab f i) → Made s₀ out n f s i
made-first s₀ out n f s i h e = record { within = h; long = rw (e, length-put); is = e }

pub made_of : (s₀ : List Float) (out n : ℕ) (f : ℕ → Float) (s : List Float) → s ≡ put s₀ out (tab f n) → Made s₀ out n f s n
made_of s₀ out n f s e = made-first s₀ out n f s n (omega arith) e

clear_of : (out a n : ℕ) → Clear out a n → (a + n ≤ out) ⊎ (out ≤ a)
clear_of out a n h = go (dec_lt out (a + n)) (dec_lt a (out + n)) where
  go : Dec (out < a + n) → Dec (a < out + n) → (a + n ≤ out) ⊎ (out ≤ a)
  go (no l) d = inl (omega (arith, l))
  go (yes l) (no k) = inr (omega (arith, k))
  go (yes l) (yes k) = inr (omega (arith, h l k))

module _ {s₀ : List Float} {out n : ℕ} {f : ℕ → Float} {s : List Float} {i : ℕ} (m : Made s₀ out n f s i) where
  pub made_more : (x : Float) → i < n → x ≡ f i → Made s₀ out n f (set s (out + i) x) (i + 1)
  made_more x h e = record { within = omega arith; long = simp length-set m.long; is = rw (m.is, e) (put-tab-more s₀ out f i) }

  pub made_all : n ≤ i → s ≡ put s₀ out (tab f n)
  made_all h =
      let e : i ≡ n = omega arith in
      rw e at m.is

  -- what is still to be read, at the same place or apart, is as it was
  pub kept : (a : ℕ) → i < n → Clear out a n → get_or s (a + i) nan ≡ part s₀ a n ! i
  kept a h k =
      rw (m.is, get_or-part s₀ a n i nan h)
      (⊎_elim (λ (l : a + n ≤ out). get_or-put-above s₀ out (tab f i) (a + i) nan (omega arith))
      (λ (l : out ≤ a). get_or-put-below s₀ out (tab f i) (a + i) nan (omega (arith, length-tab f i))) (clear_of out a n k))

  pub part-kept : (b k : ℕ) → (out < b + k → out + n ≤ b) → part s b k ≡ part s₀ b k
  part-kept b k h =
      rw m.is (part-put-apart s₀ out (tab f i) b k (rw length-tab (apart-fewer out n i b k m.within (apart_of out n b k h))))

  -- written a second time
  pub made_again : (g : ℕ → Float) (t : List Float) → t ≡ put s out (tab g n) → Made s₀ out n g t n
  made_again g t e =
      let l : length (tab f i) ≤ length (tab g n) = omega (arith, length-tab f i, length-tab g n) in
      made_of s₀ out n g t (rw (e, m.is) (put-put-same s₀ out (tab f i) (tab g n) l))

  -- over itself, for a loop that goes on
  pub made-self : Made s out n f s i
  made-self =
      let e : put s out (tab f i) ≡ s = ap (λ (r : List Float). put r out (tab f i)) m.is ∙ put-put-same s₀ out (tab f i) (tab f i) (omega arith) ∙ sym m.is in
      record { within = m.within; long = refl; is = sym e }

-- an array that is written whole, from its first element on
pub array-more : {s₀ : List Float} {n : ℕ} {f : ℕ → Float} {s : List Float} {i : ℕ} → Made s₀ 0 n f s i → (x : Float) → i < n → x ≡ f i
    → Made s₀ 0 n f (set s i x) (i + 1)
array-more {i = i} m x h e =
    let q : 0 + i ≡ i = omega arith in
    rw q at (made_more m x h e)

pub array-all : {s₀ : List Float} {n : ℕ} {f : ℕ → Float} {s : List Float} {i : ℕ} → Made s₀ 0 n f s i → n ≤ i → length s₀ ≡ n → s ≡ tab f n
array-all {s₀} {n} {f} m h l = made_all m h ∙ put_all s₀ (tab f n) (length-tab f n ∙ sym l)

-- one turn of a loop that makes each element of two, and of one
pub zip_more : (g : Float → Float → Float) {s₀ : List Float} {out : ℕ} (a b : ℕ) {n : ℕ} {s : List Float} {i : ℕ}
    → Made s₀ out n (λ k. g (part s₀ a n ! k) (part s₀ b n ! k)) s i → i < n → Clear out a n → Clear out b n
    → Made s₀ out n (λ k. g (part s₀ a n ! k) (part s₀ b n ! k)) (set s (out + i) (g (get_or s (a + i) nan) (get_or s (b + i) nan))) (i + 1)
zip_more g a b {s = s} {i = i} m h ka kb =
    let ea = kept m a h ka in
    let eb = kept m b h kb in
    made_more m (g (get_or s (a + i) nan) (get_or s (b + i) nan)) h (rw (ea, eb))

pub map_more : (g : Float → Float) {s₀ : List Float} {out : ℕ} (a : ℕ) {n : ℕ} {s : List Float} {i : ℕ}
    → Made s₀ out n (λ k. g (part s₀ a n ! k)) s i → i < n → Clear out a n
    → Made s₀ out n (λ k. g (part s₀ a n ! k)) (set s (out + i) (g (get_or s (a + i) nan))) (i + 1)
map_more g a m h k = zip_more (λ v w. g v) a a m h k k

-- one turn of a loop that sums the products of two parts
pub products-more : (start : Float) (x : List Float) (a : ℕ) (y : List Float) (b n i : ℕ) (t : Float) → i < n
    → t ≡ products start (λ k. part x a n ! k) (λ k. part y b n ! k) i
    → t ⊕ x ! (a + i) ⊗ y ! (b + i) ≡ products start (λ k. part x a n ! k) (λ k. part y b n ! k) (i + 1)
products-more start x a y b n i t h e = fold-turn _ start _ i t _ e (rw (get_or-part x a n i nan h, get_or-part y b n i nan h))

-- the end of a loop that copies
pub made-copy : {s₀ : List Float} {out n : ℕ} {s : List Float} {i : ℕ} (t : List Float) (a : ℕ) → Made s₀ out n (λ k. part t a n ! k) s i → n ≤ i
    → a + n ≤ length t → s ≡ put s₀ out (part t a n)
made-copy {n = n} t a m h l = rw (tab-all (part t a n) n nan (length_part t a n l)) at (made_all m h)
