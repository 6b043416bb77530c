-- Laws of parts, puts and tables: lengths, elements, a part of a put, a put of a put, and a loop that writes one element after another. Assumes nothing.
use mathlib.Core.Path.{◌≡◌, refl, sym, ap, ◌∙◌, subst}
use mathlib.Core.Logic.{◌⊎◌, inl, inr, ⊎_elim}
use mathlib.Core.List.{List, [], ◌∷◌, ◌++◌, append_assoc, append-nil}
use Prim.Native.Nat.{ℕ, zero, suc, ◌+◌, ◌-◌, ◌≤◌, ◌<◌}
use native.Mathlib.Nat.{add-zero, ne_of_gt, ne_of_lt, not-suc-le-zero, le_of_suc-le-suc, eq-or-lt_of_le}
use native.Mathlib.Numerals.{add-one}
use native.Mathlib.Decide.{dec_lt}
use native.Mathlib.Omega.{arith}
use lib.ListN.{length, get_or, set, take, drop, length-append, length-drop, drop_of_length-le, get_or-append}
use lib.Seq.{sets, length-sets, sets-eq, length-take-le, take_all, take-set-le, drop-set-lt, drop-set-add, set_comm, set-set, take_at, drop_at}
use lib.Seq.{get_or-set_other, get_or-take, get_or-drop, get_or-append-add, ext_get_or, take-take, drop-drop}
use Rattle.arrays.specs.Part.{part, put, tab}

-- the n elements from a and the k from b have none in common
abbrev pub Apart : ℕ → ℕ → ℕ → ℕ → Type 0
Apart a n b k = (b + k ≤ a) ⊎ (a + n ≤ b)

-- fewer than n have none in common with them either
pub apart-fewer : (a n i b k : ℕ) → i ≤ n → Apart a n b k → Apart a i b k
apart-fewer a n i b k h p = ⊎_elim (λ l. inl l) (λ l. inr (omega arith)) p

pub apart_of : (a n b k : ℕ) → (a < b + k → a + n ≤ b) → Apart a n b k
apart_of a n b k h = go (dec_lt a (b + k)) where
  go : Dec (a < b + k) → Apart a n b k
  go (yes l) = inr (h l)
  go (no l) = inl (omega (arith, l))

module _ {A : Type 0} where
  -- ---- lengths

  pub length_part : (s : List A) (a k : ℕ) → a + k ≤ length s → length (part s a k) ≡ k
  unfolding part
  length_part s a k h = length-take-le k (drop a s) (simp length-drop (omega arith))

  pub length-put : (s : List A) (a : ℕ) (xs : List A) → length (put s a xs) ≡ length s
  unfolding put
  length-put s a xs = length-sets s a xs

  pub length-tab : (f : ℕ → A) (n : ℕ) → length (tab f n) ≡ n
  unfolding tab
  length-tab f zero = refl
  length-tab f (suc n) = length-append (tab f n) (f n ∷ []) ∙ ap (λ (k : ℕ). k + 1) (length-tab f n) ∙ add-one n

  -- ---- elements of a part

  pub get_or-part : (s : List A) (a k i : ℕ) (d : A) → i < k → get_or (part s a k) i d ≡ get_or s (a + i) d
  unfolding part
  get_or-part s a k i d h = get_or-take k (drop a s) i d h ∙ get_or-drop a s i d

  -- ---- a part of a part

  take-mid : (k b n : ℕ) (s : List A) → b + k ≤ n → take k (drop b (take n s)) ≡ take k (drop b s)
  take-mid k zero n s h = take-take k n s (omega arith)
  take-mid k (suc b) zero s h = absurd (omega arith)
  take-mid k (suc b) (suc n) [] h = refl
  take-mid k (suc b) (suc n) (x ∷ xs) h = take-mid k b n xs (omega arith)

  pub part-part : (s : List A) (a n b k : ℕ) → b + k ≤ n → part (part s a n) b k ≡ part s (a + b) k
  unfolding part
  part-part s a n b k h = take-mid k b n (drop a s) h ∙ ap (take k) (drop-drop b a s)

  -- ---- a store, and a part that it does not touch

  part-set : (s : List A) (a : ℕ) (x : A) (b k : ℕ) → b + k ≤ a → take k (drop b (set s a x)) ≡ take k (drop b s)
  part-set s a x b k h =
      let e : a ≡ b + (a - b) = omega arith in
      let le : k ≤ a - b = omega arith in
      subst (λ (n : ℕ). take k (drop b (set s n x)) ≡ take k (drop b s)) (sym e)
      (ap (take k) (drop-set-add b s (a - b) x) ∙ take-set-le k (drop b s) (a - b) x le)

  sets-above : (s : List A) (a : ℕ) (xs : List A) (b k : ℕ) → b + k ≤ a → take k (drop b (sets s a xs)) ≡ take k (drop b s)
  sets-above s a [] b k h = refl
  sets-above s a (x ∷ xs) b k h = sets-above (set s a x) (suc a) xs b k (omega arith) ∙ part-set s a x b k h

  sets_below : (s : List A) (a : ℕ) (xs : List A) (b : ℕ) → a + length xs ≤ b → drop b (sets s a xs) ≡ drop b s
  sets_below s a [] b h = refl
  sets_below s a (x ∷ xs) b h = sets_below (set s a x) (suc a) xs b (omega arith) ∙ drop-set-lt b s a x (omega arith)

  -- ---- part of put: the write lies above the part, or below it, or is the part

  pub part-put-above : (s : List A) (a : ℕ) (xs : List A) (b k : ℕ) → b + k ≤ a → part (put s a xs) b k ≡ part s b k
  unfolding part put
  part-put-above s a xs b k h = sets-above s a xs b k h

  pub part-put-below : (s : List A) (a : ℕ) (xs : List A) (b k : ℕ) → a + length xs ≤ b → part (put s a xs) b k ≡ part s b k
  unfolding part put
  part-put-below s a xs b k h = ap (take k) (sets_below s a xs b h)

  pub part-put-same : (s : List A) (a : ℕ) (xs : List A) (k : ℕ) → length xs ≡ k → a + k ≤ length s → part (put s a xs) a k ≡ xs
  unfolding part put
  part-put-same s a xs k e h =
      let h2 : a + length xs ≤ length s = omega arith in
      let h3 : a ≤ length s = omega arith in
      ap (λ (l : List A). take k (drop a l)) (sets-eq xs s a h2 ∙ append_assoc (take a s) xs (drop (a + length xs) s))
      ∙ ap (take k) (drop_at (take a s) (xs ++ drop (a + length xs) s) a (length-take-le a s h3))
      ∙ take_at xs (drop (a + length xs) s) k e

  pub part-put-apart : (s : List A) (a : ℕ) (xs : List A) (b k : ℕ) → Apart a (length xs) b k → part (put s a xs) b k ≡ part s b k
  part-put-apart s a xs b k h = ⊎_elim (λ l. part-put-above s a xs b k l) (λ l. part-put-below s a xs b k l) h

  -- ---- put of put

  set-sets : (s : List A) (i : ℕ) (y : A) (a : ℕ) (xs : List A) → i < a → set (sets s a xs) i y ≡ sets (set s i y) a xs
  set-sets s i y a [] h = refl
  set-sets s i y a (x ∷ xs) h =
      set-sets (set s a x) i y (suc a) xs (omega arith)
      ∙ ap (λ (l : List A). sets l (suc a) xs) (set_comm s a i x y (ne_of_gt h))

  pub put-put-same : (s : List A) (a : ℕ) (xs ys : List A) → length xs ≤ length ys → put (put s a xs) a ys ≡ put s a ys
  unfolding put
  put-put-same s a [] ys h = refl
  put-put-same s a (x ∷ xs) [] h = absurd (not-suc-le-zero h)
  put-put-same s a (x ∷ xs) (y ∷ ys) h =
      ap (λ (l : List A). sets l (suc a) ys)
      (set-sets (set s a x) a y (suc a) xs (omega arith) ∙ ap (λ (l : List A). sets l (suc a) xs) (set-set s a x y))
      ∙ put-put-same (set s a y) (suc a) xs ys (le_of_suc-le-suc h)

  pub put-comm : (s : List A) (a : ℕ) (xs : List A) (b : ℕ) (ys : List A) → a + length xs ≤ b → put (put s a xs) b ys ≡ put (put s b ys) a xs
  unfolding put
  put-comm s a [] b ys h = refl
  put-comm s a (x ∷ xs) b ys h =
      put-comm (set s a x) (suc a) xs b ys (omega arith)
      ∙ ap (λ (l : List A). sets l (suc a) xs) (sym (set-sets s a x b ys (omega arith)))

  -- ---- a store at the end of a put is a put of one more

  pub put-none : (s : List A) (a : ℕ) → put s a [] ≡ s
  unfolding put
  put-none s a = refl

  -- a put that goes on where another ended
  pub put-append : (s : List A) (a : ℕ) (xs ys : List A) → put (put s a xs) (a + length xs) ys ≡ put s a (xs ++ ys)
  unfolding put
  put-append s a [] ys = rw add-zero
  put-append s a (x ∷ xs) ys =
      let e : a + suc (length xs) ≡ suc a + length xs = omega arith in
      rw e (put-append (set s a x) (suc a) xs ys)

  pub put-snoc : (s : List A) (a : ℕ) (xs : List A) (x : A) → set (put s a xs) (a + length xs) x ≡ put s a (xs ++ (x ∷ []))
  unfolding put
  put-snoc s a xs x = put-append s a xs (x ∷ [])

  -- ---- a loop that writes f 0, f 1, .. from index a

  pub put-tab-none : (s : List A) (a : ℕ) (f : ℕ → A) → s ≡ put s a (tab f 0)
  unfolding put tab
  put-tab-none s a f = refl

  pub put-tab-more : (s : List A) (a : ℕ) (f : ℕ → A) (i : ℕ) → set (put s a (tab f i)) (a + i) (f i) ≡ put s a (tab f (i + 1))
  unfolding tab
  put-tab-more s a f i =
      ap (λ (n : ℕ). set (put s a (tab f i)) (a + n) (f i)) (sym (length-tab f i))
      ∙ put-snoc s a (tab f i) (f i)
      ∙ ap (λ (n : ℕ). put s a (tab f n)) (sym (add-one i))

  pub tab-ext : (f g : ℕ → A) (n : ℕ) → ((i : ℕ) → i < n → f i ≡ g i) → tab f n ≡ tab g n
  unfolding tab
  tab-ext f g zero h = refl
  tab-ext f g (suc n) h =
      let e : f n ≡ g n = h n (omega arith) in
      rw (tab-ext f g n (λ i l. h i (omega arith)), e)

  pub get_or-tab : (f : ℕ → A) (n i : ℕ) (d : A) → i < n → get_or (tab f n) i d ≡ f i
  unfolding tab
  get_or-tab f zero i d h = absurd (not-suc-le-zero h)
  get_or-tab f (suc n) i d h =
      ⊎_elim
      (λ (e : i ≡ n).
      ap (λ (k : ℕ). get_or (tab f n ++ (f n ∷ [])) k d) (e ∙ sym (add-zero n) ∙ ap (λ (k : ℕ). k + 0) (sym (length-tab f n)))
      ∙ get_or-append-add (tab f n) (f n ∷ []) 0 d ∙ ap f (sym e))
      (λ (l : i < n). get_or-append (tab f n) (f n ∷ []) d i (rw length-tab l) ∙ get_or-tab f n i d l)
      (eq-or-lt_of_le (le_of_suc-le-suc h))

  pub tab-all : (xs : List A) (n : ℕ) (d : A) → length xs ≡ n → tab (λ i. get_or xs i d) n ≡ xs
  tab-all xs n d e =
      let f : ℕ → A = λ i. get_or xs i d in
      ext_get_or d (tab f n) xs (length-tab f n ∙ sym e) (λ i l. get_or-tab f n i d (omega (arith, length-tab f n)))

  -- ---- an element of a put

  sets-other : (s : List A) (a : ℕ) (xs : List A) (j : ℕ) (d : A) → (j < a) ⊎ (a + length xs ≤ j) → get_or (sets s a xs) j d ≡ get_or s j d
  sets-other s a [] j d h = refl
  sets-other s a (x ∷ xs) j d (inl h) = sets-other (set s a x) (suc a) xs j d (inl (omega arith)) ∙ get_or-set_other s a j x d (ne_of_lt h)
  sets-other s a (x ∷ xs) j d (inr h) =
      let l : a < j = omega arith in
      sets-other (set s a x) (suc a) xs j d (inr (omega arith)) ∙ get_or-set_other s a j x d (ne_of_gt l)

  pub get_or-put-above : (s : List A) (a : ℕ) (xs : List A) (j : ℕ) (d : A) → j < a → get_or (put s a xs) j d ≡ get_or s j d
  unfolding put
  get_or-put-above s a xs j d h = sets-other s a xs j d (inl h)

  pub get_or-put-below : (s : List A) (a : ℕ) (xs : List A) (j : ℕ) (d : A) → a + length xs ≤ j → get_or (put s a xs) j d ≡ get_or s j d
  unfolding put
  get_or-put-below s a xs j d h = sets-other s a xs j d (inr h)

  pub get_or-put-tab : (s : List A) (a : ℕ) (f : ℕ → A) (n i : ℕ) (d : A) → a + n ≤ length s → i < n → get_or (put s a (tab f n)) (a + i) d ≡ f i
  get_or-put-tab s a f n i d l h =
      sym (get_or-part (put s a (tab f n)) a n i d h) ∙ ap (λ (r : List A). get_or r i d) (part-put-same s a (tab f n) n (length-tab f n) l)
      ∙ get_or-tab f n i d h

  -- what is there already, written again
  pub put_self : (s : List A) (a : ℕ) (f : ℕ → A) (n : ℕ) (d : A) → a + n ≤ length s → ((i : ℕ) → i < n → f i ≡ get_or s (a + i) d) → put s a (tab f n) ≡ s
  put_self s a f n d h e = ext_get_or d (put s a (tab f n)) s (length-put s a (tab f n)) (λ i l. go i (dec_lt i a) (dec_lt i (a + n))) where
    go : (i : ℕ) → Dec (i < a) → Dec (i < a + n) → get_or (put s a (tab f n)) i d ≡ get_or s i d
    go i (yes l) m = get_or-put-above s a (tab f n) i d l
    go i (no l) (no m) = get_or-put-below s a (tab f n) i d (rw length-tab (omega (arith, m)))
    go i (no l) (yes m) =
        let q : a + (i - a) ≡ i = omega (arith, l) in
        let k : i - a < n = omega (arith, l) in
        subst (λ (j : ℕ). get_or (put s a (tab f n)) j d ≡ get_or s j d) q (get_or-put-tab s a f n (i - a) d h k ∙ e (i - a) k)

  -- ---- a part that is the whole, and a put of the whole

  pub part-all : (s : List A) (n : ℕ) → length s ≡ n → part s 0 n ≡ s
  unfolding part
  part-all s n h = take_all n s (omega arith)

  pub put_all : (s xs : List A) → length xs ≡ length s → put s 0 xs ≡ xs
  unfolding put
  put_all s xs h =
      let l : 0 + length xs ≤ length s = omega arith in
      let e : length s ≤ 0 + length xs = omega arith in
      sets-eq xs s 0 l ∙ ap (λ (r : List A). xs ++ r) (drop_of_length-le s e) ∙ append-nil xs
