-- Sums to which what is made of one vector after another is added, however many at a time; and their products with numbers. Assumes nothing.
use mathlib.Core.Path.{◌≡◌, refl, sym, ap, ◌∙◌}
use mathlib.Core.List.{List}
use Prim.Native.Nat.{ℕ, ◌+◌, ◌*◌, ◌≤◌, ◌<◌}
use native.Mathlib.Nat.{add-mul}
use native.Mathlib.Omega.{arith}
use lib.ListN.{length}
use lib.Ieee.{Float, nan}
use Rattle.numbers.specs.Ops.{◌⊕◌, ◌⊗◌}
use Rattle.arrays.specs.Part.{part, put, tab}
use Rattle.arrays.proofs.Part.{tab-ext, get_or-tab, get_or-part, get_or-put-tab, put_self}
use Rattle.arrays.specs.Sums.{◌!◌}
use Rattle.arrays.proofs.Folds.{fold-none, fold-turn, fold-ext, fold_on}
use Rattle.arrays.specs.Vectors.{Clear, zip_of}
use Rattle.several.specs.Several.{gathered, added_of}
use Rattle.arrays.proofs.Turns.{Made, made_of, made_again, kept}

-- ---- one sum

module _ (f : ℕ → Float → Float) (t : List Float) (out : ℕ) (s : List Float) (r apart j : ℕ) where
  pub gathered_none : t ! (out + j) ≡ gathered f t out s r apart 0 j
  unfolding gathered
  gathered_none = sym (fold-none _ _ _)

  pub gathered-more : (k : ℕ) (x y : Float) → x ≡ gathered f t out s r apart k j → y ≡ f k (s ! (r + k * apart + j)) → x ⊕ y ≡ gathered f t out s r apart (k + 1) j
  unfolding gathered
  gathered-more k x y ex ey = fold-turn _ _ _ k x y ex ey

pub gathered-one : (f : ℕ → Float → Float) (t : List Float) (out : ℕ) (s : List Float) (r apart j : ℕ)
    → t ! (out + j) ⊕ f 0 (s ! (r + j)) ≡ gathered f t out s r apart 1 j
gathered-one f t out s r apart j =
    let place : r + j ≡ r + 0 * apart + j = omega arith in
    gathered-more f t out s r apart j 0 _ _ (gathered_none f t out s r apart j) (ap (λ (a : ℕ). f 0 (s ! a)) place)

-- `count` vectors more of s, with g, after the first i of s₀ with f
pub gathered-on : (f g : ℕ → Float → Float) (t₀ t : List Float) (out : ℕ) (s₀ s : List Float) (r apart i count j : ℕ) → t ! (out + j) ≡ gathered f t₀ out s₀ r apart i j
    → ((k : ℕ) → k < count → g k (s ! (r + (i + k) * apart + j)) ≡ f (i + k) (s₀ ! (r + (i + k) * apart + j))) → (at : ℕ) → at ≡ r + i * apart
    → gathered g t out s at apart count j ≡ gathered f t₀ out s₀ r apart (i + count) j
unfolding gathered
gathered-on f g t₀ t out s₀ s r apart i count j begun same at e =
    rw begun (fold-ext _ _ _ _ count (λ k l.
    let place : at + k * apart ≡ r + (i + k) * apart = omega (arith, add-mul i k apart) in
    rw place (same k l))
    ∙ fold_on _ _ _ i count)

-- ---- products: a vector of sums, and no vector, one, or more added to it

pub added_none : (t : List Float) (out n : ℕ) (s : List Float) (f : ℕ → Float) (r apart : ℕ) → out + n ≤ length t
    → Made t out n (added_of t out s f r apart 0) t n
unfolding added_of
added_none t out n s f r apart room = made_of t out n _ t (sym (put_self t out _ n nan room (λ j l. sym (gathered_none _ t out s r apart j))))

-- x is the one number
pub added-one : (t : List Float) (out n : ℕ) (s : List Float) (f : ℕ → Float) (r apart : ℕ) (x : Float) → x ≡ f 0
    → zip_of (λ (a w : Float). a ⊕ x ⊗ w) n (part t out n) (part s r n) ≡ tab (added_of t out s f r apart 1) n
unfolding zip_of added_of
added-one t out n s f r apart x e =
    tab-ext _ _ n (λ j l. rw (e, get_or-part t out n j nan l, get_or-part s r n j nan l) (gathered-one (λ k v. f k ⊗ v) t out s r apart j))

-- `count` vectors more, where those of s are as they were in s₀
pub added-on : {t₀ : List Float} (s₀ s : List Float) {out n : ℕ} (f : ℕ → Float) (r apart i count : ℕ) {t : List Float} → Made t₀ out n (added_of t₀ out s₀ f r apart i) t n
    → out + n ≤ length t₀ → ((k j : ℕ) → k < count → j < n → s ! (r + (i + k) * apart + j) ≡ s₀ ! (r + (i + k) * apart + j)) → (g : ℕ → Float)
    → ((k : ℕ) → k < count → g k ≡ f (i + k)) → (at : ℕ) → at ≡ r + i * apart → (u : List Float)
    → u ≡ put t out (tab (added_of t out s g at apart count) n) → Made t₀ out n (added_of t₀ out s₀ f r apart (i + count)) u n
unfolding added_of
added-on {t₀} s₀ s {out} {n} f r apart i count {t} d room same g is at e u q =
    made_again d _ u (q ∙ ap (put t out) (tab-ext _ _ n (λ j l.
    let begun : t ! (out + j) ≡ added_of t₀ out s₀ f r apart i j = rw d.is (get_or-put-tab t₀ out (added_of t₀ out s₀ f r apart i) n j nan room l) in
    gathered-on (λ k v. f k ⊗ v) (λ k v. g k ⊗ v) t₀ t out s₀ s r apart i count j begun (λ k h. rw (is k h, same k j h l)) at e)))

-- numbers that were read before
pub added-read : (t : List Float) (out : ℕ) (s xs : List Float) (f g : ℕ → Float) (r apart count n : ℕ) → xs ≡ tab g count → ((k : ℕ) → k < count → g k ≡ f k)
    → tab (added_of t out s (λ k. xs ! k) r apart count) n ≡ tab (added_of t out s f r apart count) n
unfolding added_of gathered
added-read t out s xs f g r apart count n e is =
    tab-ext _ _ n (λ j l.
    fold-ext _ _ _ _ count (λ k h. ap (λ (x : Float). x ⊗ s ! (r + k * apart + j)) (ap (λ (ys : List Float). ys ! k) e ∙ get_or-tab g count k nan h ∙ is k h)))

-- what sum j reads while the sums before it are written is what was there before the loop
module _ {s₀ : List Float} {out n : ℕ} {f : ℕ → Float} {s : List Float} {j : ℕ} (m : Made s₀ out n f s j) (h : j < n) where
  pub still : (a : ℕ) → Clear out a n → s ! (a + j) ≡ s₀ ! (a + j)
  still a c = kept m a h c ∙ get_or-part s₀ a n j nan h

  pub added-kept : (t t₀ : List Float) (at : ℕ) → t ! (at + j) ≡ t₀ ! (at + j) → (g : ℕ → Float) (r apart count : ℕ)
      → ((k : ℕ) → k < count → Clear out (r + k * apart) n) → added_of t at s g r apart count j ≡ added_of t₀ at s₀ g r apart count j
  unfolding added_of gathered
  added-kept t t₀ at e g r apart count c = rw e (fold-ext _ _ _ _ count (λ k l. ap (λ (v : Float). g k ⊗ v) (still (r + k * apart) (c k l))))

-- a loop over the vectors: none, and one more
pub added-first : (t : List Float) (out : ℕ) (s : List Float) (f : ℕ → Float) (r apart j : ℕ) → t ! (out + j) ≡ added_of t out s f r apart 0 j
unfolding added_of
added-first t out s f r apart j = gathered_none _ t out s r apart j

pub added_more : (t : List Float) (out : ℕ) (s : List Float) (f : ℕ → Float) (r apart k j : ℕ) (x : Float) → x ≡ added_of t out s f r apart k j
    → x ⊕ f k ⊗ s ! (r + k * apart + j) ≡ added_of t out s f r apart (k + 1) j
unfolding added_of
added_more t out s f r apart k j x e = gathered-more (λ k v. f k ⊗ v) t out s r apart j k x _ e refl
