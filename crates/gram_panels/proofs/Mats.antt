-- Laws of `mat`, rows written at a stride: its elements, and how the rows of several join. Assumes nothing.
use mathlib.Core.Path.{◌≡◌, refl, sym, ap, ◌∙◌}
use mathlib.Core.Logic.{◌⊎◌, inl, inr, ⊎_elim}
use mathlib.Core.List.{List, [], ◌∷◌, ◌++◌, append_assoc, append-nil}
use Prim.Native.Nat.{ℕ, zero, suc, ◌+◌, ◌*◌, ◌≤◌, ◌<◌}
use native.Mathlib.Nat.{add-zero, add-suc, add-mul, not-suc-le-zero}
use native.Mathlib.Numerals.{add-one}
use native.Mathlib.Decide.{dec_lt}
use native.Mathlib.Omega.{arith}
use lib.ListN.{length}
use lib.Ieee.{Float, nan}
use Rattle.arrays.specs.Part.{put, tab}
use Rattle.arrays.proofs.Part.{length-put, length-tab, get_or-put-above, get_or-put-below, get_or-put-tab, put_self}
use Rattle.arrays.proofs.Part.{put-append, put-comm, put-put-same, put-none, tab-ext}
use Rattle.arrays.specs.Sums.{◌!◌}
use Rattle.matrices.proofs.Lengths.{row_room}
use Rattle.gram_panels.specs.Panels.{mat}

-- where every row ends, if none has more than k
pub ends : (at p k : ℕ) (w : ℕ → ℕ) (n q : ℕ) → ((a : ℕ) → a < n → w a ≤ k) → at + n * p + k ≤ q + p → (a : ℕ) → a < n → at + a * p + w a ≤ q
ends at p k w n q hw h a l = omega (arith, hw a l, row_room a n p l)

-- ---- a put of a table

tab-add : (f : ℕ → Float) (k n : ℕ) → tab f k ++ tab (λ b. f (k + b)) n ≡ tab f (k + n)
unfolding tab
tab-add f k zero = append-nil (tab f k) ∙ ap (tab f) (sym (add-zero k))
tab-add f k (suc n) =
    rw (← append_assoc (tab f k) (tab (λ b. f (k + b)) n) (f (k + n) ∷ []), tab-add f k n) (ap (tab f) (sym (add-suc k n)))

pub put-tab-tab : (s : List Float) (a k : ℕ) (f : ℕ → Float) (n : ℕ) → put (put s a (tab f k)) (a + k) (tab (λ b. f (k + b)) n) ≡ put s a (tab f (k + n))
put-tab-tab s a k f n =
    ap (λ (i : ℕ). put (put s a (tab f k)) (a + i) (tab (λ b. f (k + b)) n)) (sym (length-tab f k))
    ∙ put-append s a (tab f k) (tab (λ b. f (k + b)) n) ∙ ap (put s a) (tab-add f k n)

-- ---- lengths, and elements

pub length-mat : (s : List Float) (at p : ℕ) (w : ℕ → ℕ) (f : ℕ → ℕ → Float) (n : ℕ) → length (mat s at p w f n) ≡ length s
unfolding mat
length-mat s at p w f zero = refl
length-mat s at p w f (suc n) = length-put (mat s at p w f n) (at + n * p) (tab (f n) (w n)) ∙ length-mat s at p w f n

module _ (s : List Float) (at p : ℕ) (w : ℕ → ℕ) (f : ℕ → ℕ → Float) where
  pub mat-below : (n q : ℕ) → q < at → mat s at p w f n ! q ≡ s ! q
  unfolding mat
  mat-below zero q h = refl
  mat-below (suc n) q h = get_or-put-above (mat s at p w f n) (at + n * p) (tab (f n) (w n)) q nan (omega arith) ∙ mat-below n q h

  -- an element that no row has
  mat-out : (n q : ℕ) → ((a : ℕ) → a < n → (q < at + a * p) ⊎ (at + a * p + w a ≤ q)) → mat s at p w f n ! q ≡ s ! q
  unfolding mat
  mat-out zero q h = refl
  mat-out (suc n) q h =
      ⊎_elim (λ l. get_or-put-above (mat s at p w f n) (at + n * p) (tab (f n) (w n)) q nan l)
      (λ l. get_or-put-below (mat s at p w f n) (at + n * p) (tab (f n) (w n)) q nan (rw length-tab l)) (h n (omega arith))
      ∙ mat-out n q (λ a m. h a (omega arith))

  pub mat-beyond : (n q : ℕ) → ((a : ℕ) → a < n → at + a * p + w a ≤ q) → mat s at p w f n ! q ≡ s ! q
  mat-beyond n q h = mat-out n q (λ a l. inr (h a l))

  pub mat-gap : (n a b : ℕ) → ((i : ℕ) → i < n → w i ≤ p) → w a ≤ b → b < p → mat s at p w f n ! (at + a * p + b) ≡ s ! (at + a * p + b)
  mat-gap n a b hw hb hp = mat-out n (at + a * p + b) (λ i m. go i m (dec_lt i a) (dec_lt a i)) where
    go : (i : ℕ) → i < n → Dec (i < a) → Dec (a < i) → (at + a * p + b < at + i * p) ⊎ (at + i * p + w i ≤ at + a * p + b)
    go i m (yes l) k = inr (omega (arith, hw i m, row_room i a p l))
    go i m (no l) (yes k) = inl (omega (arith, row_room a i p k))
    go i m (no l) (no k) =
        let e : i ≡ a = omega (arith, l, k) in
        inr (rw e (omega arith))

  pub mat-in : (n a b : ℕ) → ((i : ℕ) → i < n → w i ≤ p) → at + a * p + w a ≤ length s → a < n → b < w a → mat s at p w f n ! (at + a * p + b) ≡ f a b
  unfolding mat
  mat-in zero a b hw hl ha hb = absurd (not-suc-le-zero ha)
  mat-in (suc n) a b hw hl ha hb = go (λ l. mat-in n a b (λ i m. hw i (omega arith)) hl l hb) (dec_lt a n) where
    go : (a < n → mat s at p w f n ! (at + a * p + b) ≡ f a b) → Dec (a < n)
        → put (mat s at p w f n) (at + n * p) (tab (f n) (w n)) ! (at + a * p + b) ≡ f a b
    go ih (yes l) =
        get_or-put-above (mat s at p w f n) (at + n * p) (tab (f n) (w n)) (at + a * p + b) nan (omega (arith, hw a ha, row_room a n p l)) ∙ ih l
    go ih (no l) =
        let e : a ≡ n = omega (arith, l) in
        rw e (get_or-put-tab (mat s at p w f n) (at + n * p) (f n) (w n) b nan (rw (length-mat, ← e) hl) (rw (← e) hb))

-- ---- a loop that writes a row at a time

-- the first a of n rows are written, and all else is as it was in s₀
pub record Striped (s₀ : List Float) (at p : ℕ) (w : ℕ → ℕ) (f : ℕ → ℕ → Float) (n : ℕ) (s : List Float) (a : ℕ) : Type 0 where
  pub within : a ≤ n
  pub long : length s ≡ length s₀
  pub is : s ≡ mat s₀ at p w f a

pub striped-none : (s₀ : List Float) (at p : ℕ) (w : ℕ → ℕ) (f : ℕ → ℕ → Float) (n : ℕ) → Striped s₀ at p w f n s₀ 0
unfolding mat
striped-none s₀ at p w f n = record { within = omega arith; long = refl; is = refl }

module _ {s₀ : List Float} {at p : ℕ} {w : ℕ → ℕ} {f : ℕ → ℕ → Float} {n : ℕ} {s : List Float} {a : ℕ} (t : Striped s₀ at p w f n s a) where
  -- one turn, of a callee that made the row g out of s
  pub striped-more : (k : ℕ) (g : ℕ → Float) (s' : List Float) → a < n → k ≡ w a → ((b : ℕ) → b < w a → g b ≡ f a b)
      → s' ≡ put s (at + a * p) (tab g k) → Striped s₀ at p w f n s' (a + 1)
  unfolding mat
  striped-more k g s' h ek eg e =
      let r : tab g k ≡ tab (f a) (w a) = ap (tab g) ek ∙ tab-ext g (f a) (w a) eg in
      record {
        within = omega arith;
        long = ap length e ∙ length-put s (at + a * p) (tab g k) ∙ t.long;
        is = e ∙ rw (r, t.is, add-one a);
      }

  pub striped-all : n ≤ a → s ≡ mat s₀ at p w f n
  striped-all h =
      let e : a ≡ n = omega arith in
      rw e at t.is

  -- what is still to be read is as it was
  pub before-rows : (q : ℕ) → q < at → s ! q ≡ s₀ ! q
  before-rows q h = rw t.is (mat-below s₀ at p w f a q h)

  pub beyond-rows : (q : ℕ) → ((z : ℕ) → z < n → w z ≤ p) → at + a * p ≤ q → s ! q ≡ s₀ ! q
  beyond-rows q hw h = rw t.is (mat-beyond s₀ at p w f a q (ends at p p w a q (λ z l. hw z (omega (arith, t.within))) (omega arith)))

-- ---- mats and puts

pub mat-self : (s : List Float) (at p : ℕ) (w : ℕ → ℕ) (f : ℕ → ℕ → Float) (n : ℕ) → ((a : ℕ) → a < n → at + a * p + w a ≤ length s)
    → ((a b : ℕ) → a < n → b < w a → f a b ≡ s ! (at + a * p + b)) → mat s at p w f n ≡ s
unfolding mat
mat-self s at p w f zero hl e = refl
mat-self s at p w f (suc n) hl e =
    ap (λ (r : List Float). put r (at + n * p) (tab (f n) (w n))) (mat-self s at p w f n (λ a l. hl a (omega arith)) (λ a b l m. e a b (omega arith) m))
    ∙ put_self s (at + n * p) (f n) (w n) nan (hl n (omega arith)) (λ b m. e n b (omega arith) m)

pub mat-ext : (s : List Float) (at p : ℕ) (w v : ℕ → ℕ) (f g : ℕ → ℕ → Float) (n : ℕ) → ((a : ℕ) → a < n → w a ≡ v a)
    → ((a b : ℕ) → a < n → b < w a → f a b ≡ g a b) → mat s at p w f n ≡ mat s at p v g n
unfolding mat
mat-ext s at p w v f g zero hw h = refl
mat-ext s at p w v f g (suc n) hw h =
    let e : w n ≡ v n = hw n (omega arith) in
    let i : mat s at p w f n ≡ mat s at p v g n = mat-ext s at p w v f g n (λ a l. hw a (omega arith)) (λ a b l m. h a b (omega arith) m) in
    let t : tab (f n) (w n) ≡ tab (g n) (v n) = tab-ext (f n) (g n) (w n) (λ b m. h n b (omega arith) m) ∙ ap (tab (g n)) e in
    rw (i, t)

pub mat-none : (s : List Float) (at p : ℕ) (f : ℕ → ℕ → Float) (n : ℕ) → mat s at p (λ a. 0) f n ≡ s
unfolding mat tab
mat-none s at p f zero = refl
mat-none s at p f (suc n) = put-none (mat s at p (λ a. 0) f n) (at + n * p) ∙ mat-none s at p f n

-- what is written beyond the rows may be written first
pub mat-put : (s : List Float) (at p : ℕ) (w : ℕ → ℕ) (f : ℕ → ℕ → Float) (q : ℕ) (xs : List Float) (n : ℕ) → ((a : ℕ) → a < n → at + a * p + w a ≤ q)
    → mat (put s q xs) at p w f n ≡ put (mat s at p w f n) q xs
unfolding mat
mat-put s at p w f q xs zero h = refl
mat-put s at p w f q xs (suc n) h =
    let l : at + n * p + length (tab (f n) (w n)) ≤ q = rw length-tab (h n (omega arith)) in
    ap (λ (r : List Float). put r (at + n * p) (tab (f n) (w n))) (mat-put s at p w f q xs n (λ a m. h a (omega arith)))
    ∙ sym (put-comm (mat s at p w f n) (at + n * p) (tab (f n) (w n)) q xs l)

-- the same rows written twice
pub mat-mat : (s : List Float) (at p : ℕ) (w : ℕ → ℕ) (f g : ℕ → ℕ → Float) (n : ℕ) → ((a : ℕ) → a < n → w a ≤ p)
    → mat (mat s at p w f n) at p w g n ≡ mat s at p w g n
unfolding mat
mat-mat s at p w f g zero h = refl
mat-mat s at p w f g (suc n) h =
    let F = tab (f n) (w n) in
    let G = tab (g n) (w n) in
    let q = at + n * p in
    let S = mat s at p w f n in
    let hn : (a : ℕ) → a < n → w a ≤ p = λ a m. h a (omega arith) in
    let l : length F ≤ length G = simp length-tab (omega arith) in
    ap (λ (r : List Float). put r q G) (mat-put S at p w g q F n (ends at p p w n q hn (omega arith)))
    ∙ put-put-same (mat S at p w g n) q F G l
    ∙ ap (λ (r : List Float). put r q G) (mat-mat s at p w f g n hn)

-- rows, and the rows that follow them
pub mat-append : (s : List Float) (at p : ℕ) (w : ℕ → ℕ) (f : ℕ → ℕ → Float) (m n : ℕ)
    → mat (mat s at p w f m) (at + m * p) p (λ a. w (m + a)) (λ a. f (m + a)) n ≡ mat s at p w f (m + n)
unfolding mat
mat-append s at p w f m zero = ap (mat s at p w f) (sym (add-zero m))
mat-append s at p w f m (suc n) =
    let e : at + m * p + n * p ≡ at + (m + n) * p = omega (arith, add-mul m n p) in
    rw (mat-append s at p w f m n, e) (ap (mat s at p w f) (sym (add-suc m n)))

-- columns, and the columns that follow them
pub mat-wide : (s : List Float) (at p k : ℕ) (v : ℕ → ℕ) (f : ℕ → ℕ → Float) (n : ℕ) → ((a : ℕ) → a < n → k + v a ≤ p)
    → mat (mat s at p (λ a. k) f n) (at + k) p v (λ a b. f a (k + b)) n ≡ mat s at p (λ a. k + v a) f n
unfolding mat
mat-wide s at p k v f zero h = refl
mat-wide s at p k v f (suc n) h =
    let S = mat s at p (λ a. k) f n in
    let q = at + n * p in
    let e : at + k + n * p ≡ at + n * p + k = omega arith in
    let hn : (a : ℕ) → a < n → k + v a ≤ p = λ a m. h a (omega arith) in
    let hq : (a : ℕ) → a < n → at + k + a * p + v a ≤ q = λ a m. omega (arith, hn a m, row_room a n p m) in
    let last = tab (λ b. f n (k + b)) (v n) in
    ap (λ (r : List Float). put r (at + k + n * p) last) (mat-put S (at + k) p v (λ a b. f a (k + b)) q (tab (f n) k) n hq)
    ∙ ap (λ (r : List Float). put (put r q (tab (f n) k)) (at + k + n * p) last) (mat-wide s at p k v f n hn)
    ∙ ap (λ (i : ℕ). put (put (mat s at p (λ a. k + v a) f n) q (tab (f n) k)) i last) e
    ∙ put-tab-tab (mat s at p (λ a. k + v a) f n) q k (f n) (v n)
