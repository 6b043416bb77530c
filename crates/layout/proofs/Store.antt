-- Named vectors in one list, for any table of names: laws proved once for every name. Assumes nothing.
use mathlib.Core.Path.{◌≡◌, refl, sym, ap, ◌∙◌, fun_ext}
use mathlib.Core.List.{List, [], ◌∷◌, ◌++◌, append_assoc, append-nil}
use Prim.Native.Nat.{ℕ, zero, suc, ◌+◌, ◌≤◌, ◌<◌}
use native.Mathlib.Nat.{add-zero}
use native.Mathlib.Decide.{ℕ_discrete}
use native.Mathlib.Omega.{arith}
use lib.ListN.{length, take, drop, length-append, take-append-drop}
use lib.Seq.{sets-eq, take_at, drop_at, drop-drop}
use borrow.Author.Tests.{eq-eqb, ne_eqb}
use lib.Ieee.{Float}
use Rattle.arrays.specs.Part.{part, put, tab}
use Rattle.arrays.specs.Vectors.{fill_of}
use Rattle.arrays.proofs.Part.{length_part}
use Rattle.arrays.proofs.Lengths.{length-fill}
use Rattle.layout.specs.Store.{upd, flat}

module _ {A : Type 0} where
  -- the second of three lists, and another in its place
  pub part-mid : (pre xs r : List A) (a k : ℕ) → length pre ≡ a → length xs ≡ k → part (pre ++ (xs ++ r)) a k ≡ xs
  unfolding part
  part-mid pre xs r a k p q = ap (take k) (drop_at pre (xs ++ r) a p) ∙ take_at xs r k q

  pub put-mid : (pre ys r : List A) (a : ℕ) (xs : List A) → length pre ≡ a → length xs ≡ length ys
      → put (pre ++ (ys ++ r)) a xs ≡ pre ++ (xs ++ r)
  unfolding put
  put-mid pre ys r a xs p q =
      let l : a + length xs ≤ length (pre ++ (ys ++ r)) = simp length-append (omega arith) in
      let e : length (pre ++ ys) ≡ a + length xs = simp length-append (omega arith) in
      sets-eq xs (pre ++ (ys ++ r)) a l
      ∙ append_assoc (take a (pre ++ (ys ++ r))) xs (drop (a + length xs) (pre ++ (ys ++ r)))
      ∙ ap (λ (t : List A). t ++ (xs ++ drop (a + length xs) (pre ++ (ys ++ r)))) (take_at pre (ys ++ r) a p)
      ∙ ap (λ (t : List A). pre ++ (xs ++ drop (a + length xs) t)) (sym (append_assoc pre ys r))
      ∙ ap (λ (t : List A). pre ++ (xs ++ t)) (drop_at (pre ++ ys) r (a + length xs) e)

module _ {S A : Type 0} (num : S → ℕ) where
  pub upd_same : (v : S → List A) (w : S) (xs : List A) → upd num v w xs w ≡ xs
  unfolding upd
  upd_same v w xs = rw (eq-eqb (num w) (num w) refl)

  pub upd_other : (v : S → List A) (w : S) (xs : List A) (s : S) → (num s ≡ num w → ⊥) → upd num v w xs s ≡ v s
  unfolding upd
  upd_other v w xs s h = rw (ne_eqb (num s) (num w) h)

-- how many elements they have
unfoldable pub total : {S : Type 0} → (S → ℕ) → List S → ℕ
total size [] = 0
total size (s ∷ ss) = size s + total size ss

length-flat : {S A : Type 0} (size : S → ℕ) (ss : List S) (v : S → List A) → ((s : S) → length (v s) ≡ size s) → length (flat ss v) ≡ total size ss
unfolding flat total
length-flat size [] v z = refl
length-flat size (s ∷ ss) v z = rw (length-append, z s, length-flat size ss v z)

-- The names ss have the numbers k, k + 1, .. and lie one after the other from a.
abbrev pub Tiled : {S : Type 0} → (S → ℕ) → (S → ℕ) → (S → ℕ) → List S → ℕ → ℕ → Type 0
Tiled num size off [] k a = Unit
Tiled num size off (s ∷ ss) k a = (num s ≡ k) × (off s ≡ a) × Tiled num size off ss (suc k) (a + size s)

-- two lists of names, the second from where the first ends
pub tiled-join : {S : Type 0} (num size off : S → ℕ) (ss ts : List S) (k a : ℕ) → Tiled num size off ss k a
    → Tiled num size off ts (k + length ss) (a + total size ss) → Tiled num size off (ss ++ ts) k a
unfolding total
tiled-join num size off [] ts k a h g = rw (add-zero k, add-zero a) at g
tiled-join num size off (s ∷ ss) ts k a h g =
    let e : k + suc (length ss) ≡ suc k + length ss = omega arith in
    let d : a + (size s + total size ss) ≡ a + size s + total size ss = omega arith in
    (h.0, h.1, tiled-join num size off ss ts (suc k) (a + size s) h.2 (rw (e, d) at g))

-- a table of names: which, with their numbers from 0, sizes and offsets
pub record Table (S : Type 0) : Type 1 where
  pub num : S → ℕ
  pub size : S → ℕ
  pub off : S → ℕ
  pub names : List S
  pub tiled : Tiled num size off names 0 0
  pub all : (s : S) → num s < length names
  pub inj : (s t : S) → num s ≡ num t → s ≡ t

module _ {S : Type 0} (num size off : S → ℕ) (inj : (s t : S) → num s ≡ num t → s ≡ t) where
  -- a name's end is within the whole
  tiled-room : (ss : List S) (k a : ℕ) → Tiled num size off ss k a → (w : S) → k ≤ num w → num w < k + length ss → off w + size w ≤ a + total size ss
  unfolding total
  tiled-room [] k a t w h g = absurd (omega arith)
  tiled-room (s ∷ ss) k a t w h g = go (λ h2. tiled-room ss (suc k) (a + size s) t.2 w h2 (omega arith)) (ℕ_discrete (num s) (num w)) where
    go : (suc k ≤ num w → off w + size w ≤ a + size s + total size ss) → Dec (num s ≡ num w) → off w + size w ≤ a + (size s + total size ss)
    go rec (yes q) =
        let sw : s ≡ w = inj s w q in
        rw (← sw) (omega (arith, t.1))
    go rec (no q) =
        let r = rec (omega (arith, t.0, q)) in
        omega arith

  tiled-low : (ss : List S) (k a : ℕ) → Tiled num size off ss k a → (w : S) → k ≤ num w → num w < k + length ss → a ≤ off w
  tiled-low [] k a t w h g = absurd (omega arith)
  tiled-low (s ∷ ss) k a t w h g = go (λ h2. tiled-low ss (suc k) (a + size s) t.2 w h2 (omega arith)) (ℕ_discrete (num s) (num w)) where
    go : (suc k ≤ num w → a + size s ≤ off w) → Dec (num s ≡ num w) → a ≤ off w
    go rec (yes q) =
        let sw : s ≡ w = inj s w q in
        rw (← sw) (omega (arith, t.1))
    go rec (no q) =
        let r = rec (omega (arith, t.0, q)) in
        omega arith

  -- of two names the one with the smaller number ends before the other begins
  tiled-apart : (ss : List S) (k a : ℕ) → Tiled num size off ss k a → (w u : S) → k ≤ num w → num w < num u → num u < k + length ss
      → off w + size w ≤ off u
  tiled-apart [] k a t w u h l g = absurd (omega arith)
  tiled-apart (s ∷ ss) k a t w u h l g = go (λ h2. tiled-apart ss (suc k) (a + size s) t.2 w u h2 l (omega arith)) (ℕ_discrete (num s) (num w)) where
    go : (suc k ≤ num w → off w + size w ≤ off u) → Dec (num s ≡ num w) → off w + size w ≤ off u
    go rec (yes q) =
        let sw : s ≡ w = inj s w q in
        let low = tiled-low ss (suc k) (a + size s) t.2 u (omega (arith, t.0, q)) (omega arith) in
        rw (← sw) (omega (arith, t.1))
    go rec (no q) = rec (omega (arith, t.0, q))

module _ {S A : Type 0} (num size off : S → ℕ) (inj : (s t : S) → num s ≡ num t → s ≡ t) where
  -- names with larger numbers do not see an update
  flat-upd : (ss : List S) (k a : ℕ) → Tiled num size off ss k a → (v : S → List A) (w : S) (xs : List A) → num w < k
      → flat ss (upd num v w xs) ≡ flat ss v
  unfolding flat
  flat-upd [] k a t v w xs h = refl
  flat-upd (s ∷ ss) k a t v w xs h =
      let ne : num s ≡ num w → ⊥ = λ e. omega (arith, t.0) in
      rw (upd_other num v w xs s ne, flat-upd ss (suc k) (a + size s) t.2 v w xs (omega arith))

  -- the part of a name is its vector
  flat-part : (ss : List S) (k a : ℕ) → Tiled num size off ss k a → (v : S → List A) → ((s : S) → length (v s) ≡ size s)
      → (w : S) → k ≤ num w → num w < k + length ss → (pre e : List A) → length pre ≡ a
      → part (pre ++ (flat ss v ++ e)) (off w) (size w) ≡ v w
  unfolding flat
  flat-part [] k a t v z w h g pre e l = absurd (omega arith)
  flat-part (s ∷ ss) k a t v z w h g pre e l =
      go (λ h2 l2. flat-part ss (suc k) (a + size s) t.2 v z w h2 (omega arith) (pre ++ v s) e l2) (ℕ_discrete (num s) (num w))
    where
      go : (suc k ≤ num w → length (pre ++ v s) ≡ a + size s → part ((pre ++ v s) ++ (flat ss v ++ e)) (off w) (size w) ≡ v w)
          → Dec (num s ≡ num w) → part (pre ++ ((v s ++ flat ss v) ++ e)) (off w) (size w) ≡ v w
      go rec (yes q) =
          let sw : s ≡ w = inj s w q in
          let o : length pre ≡ off w = l ∙ sym t.1 ∙ ap off sw in
          rw (append_assoc (v s) (flat ss v) e, sw) (part-mid pre (v w) (flat ss v ++ e) (off w) (size w) o (z w))
      go rec (no q) =
          rw (append_assoc (v s) (flat ss v) e, ← append_assoc pre (v s) (flat ss v ++ e))
          (rec (omega (arith, t.0, q)) (rw (length-append, l, z s)))

  -- a list of its length put at a name's offset is an update
  flat-put : (ss : List S) (k a : ℕ) → Tiled num size off ss k a → (v : S → List A) → ((s : S) → length (v s) ≡ size s)
      → (w : S) → k ≤ num w → num w < k + length ss → (xs : List A) → length xs ≡ size w → (pre e : List A) → length pre ≡ a
      → put (pre ++ (flat ss v ++ e)) (off w) xs ≡ pre ++ (flat ss (upd num v w xs) ++ e)
  unfolding flat
  flat-put [] k a t v z w h g xs x pre e l = absurd (omega arith)
  flat-put (s ∷ ss) k a t v z w h g xs x pre e l =
      go (λ h2 l2. flat-put ss (suc k) (a + size s) t.2 v z w h2 (omega arith) xs x (pre ++ v s) e l2) (ℕ_discrete (num s) (num w))
    where
      go : (suc k ≤ num w → length (pre ++ v s) ≡ a + size s
          → put ((pre ++ v s) ++ (flat ss v ++ e)) (off w) xs ≡ (pre ++ v s) ++ (flat ss (upd num v w xs) ++ e))
          → Dec (num s ≡ num w) → put (pre ++ ((v s ++ flat ss v) ++ e)) (off w) xs ≡ pre ++ ((upd num v w xs s ++ flat ss (upd num v w xs)) ++ e)
      go rec (yes q) =
          let sw : s ≡ w = inj s w q in
          let o : length pre ≡ off w = l ∙ sym t.1 ∙ ap off sw in
          let n : length xs ≡ length (v w) = x ∙ sym (z w) in
          let lt : num w < suc k = omega (arith, t.0) in
          rw (flat-upd ss (suc k) (a + size s) t.2 v w xs lt, sw, upd_same num v w xs, append_assoc (v w) (flat ss v) e, append_assoc xs (flat ss v) e)
          (put-mid pre (v w) (flat ss v ++ e) (off w) xs o n)
      go rec (no q) =
          rw (
            upd_other num v w xs s q,
            append_assoc (v s) (flat ss v) e,
            append_assoc (v s) (flat ss (upd num v w xs)) e,
            ← append_assoc pre (v s) (flat ss v ++ e),
            ← append_assoc pre (v s) (flat ss (upd num v w xs) ++ e),
          )
          (rec (omega (arith, t.0, q)) (rw (length-append, l, z s)))

-- what the parts of a list hold is the list
flat-cut : {S A : Type 0} (num size off : S → ℕ) (ss : List S) (k a : ℕ) → Tiled num size off ss k a → (m : List A)
    → flat ss (λ s. part m (off s) (size s)) ++ drop (a + total size ss) m ≡ drop a m
unfolding flat total part
flat-cut num size off [] k a t m = rw (add-zero a)
flat-cut num size off (s ∷ ss) k a t m =
    let e : a + (size s + total size ss) ≡ a + size s + total size ss = omega arith in
    rw (append_assoc, e, flat-cut num size off ss (suc k) (a + size s) t.2 m, t.1, ← drop-drop (size s) a m) (take-append-drop (size s) (drop a m))

-- ---- over a table: memory m holds the vectors v, and e after them

unfoldable pub need : {S : Type 0} → Table S → ℕ
need t = total t.size t.names

-- every name within the whole
pub within : {S : Type 0} (t : Table S) (w : S) → t.off w + t.size w ≤ need t
unfolding need
within t w =
    let h : 0 ≤ t.num w = omega arith in
    let g : t.num w < 0 + length t.names = omega (arith, t.all w) in
    omega (arith, tiled-room t.num t.size t.off t.inj t.names 0 0 t.tiled w h g)

pub apart : {S : Type 0} (t : Table S) (w u : S) → t.num w < t.num u → t.off w + t.size w ≤ t.off u
apart t w u l =
    let g : t.num u < 0 + length t.names = omega (arith, t.all u) in
    tiled-apart t.num t.size t.off t.inj t.names 0 0 t.tiled w u (omega arith) l g

module _ {S A : Type 0} where
  unfoldable pub cut : Table S → List A → S → List A
  cut t m s = part m (t.off s) (t.size s)

  unfoldable pub save : Table S → (S → List A) → List A → List A
  save t v e = flat t.names v ++ e

  pub record Holds (t : Table S) (e : List A) (v : S → List A) (m : List A) : Type 0 where
    pub is : m ≡ save t v e
    pub sized : (s : S) → length (v s) ≡ t.size s

module _ {S A : Type 0} (t : Table S) where
  pub length_cut : (m : List A) → need t ≤ length m → (s : S) → length (cut t m s) ≡ t.size s
  unfolding cut
  length_cut m h s = length_part m (t.off s) (t.size s) (omega (arith, within t s))

  pub save-cut : (m : List A) → save t (cut t m) (drop (need t) m) ≡ m
  unfolding cut save need
  save-cut m =
      let e : 0 + total t.size t.names ≡ total t.size t.names = omega arith in
      rw e at (flat-cut t.num t.size t.off t.names 0 0 t.tiled m)

  -- memory of enough length holds what it is cut into
  pub held : (m : List A) → need t ≤ length m → Holds t (drop (need t) m) (cut t m) m
  held m h = record { is = sym (save-cut m); sized = length_cut m h }

-- a vector of its length under one name keeps all lengths
pub sized-upd : {S A : Type 0} (t : Table S) (v : S → List A) → ((s : S) → length (v s) ≡ t.size s) → (w : S) (xs : List A) → length xs ≡ t.size w
    → (s : S) → length (upd t.num v w xs s) ≡ t.size s
sized-upd t v z w xs x s = go (ℕ_discrete (t.num s) (t.num w)) where
  go : Dec (t.num s ≡ t.num w) → length (upd t.num v w xs s) ≡ t.size s
  go (yes q) =
      let sw : s ≡ w = t.inj s w q in
      rw (sw, upd_same t.num v w xs) x
  go (no q) = rw (upd_other t.num v w xs s q) (z s)

module _ {S A : Type 0} {t : Table S} {e : List A} {v : S → List A} {m : List A} (h : Holds t e v m) where
  pub seen : (w : S) → part m (t.off w) (t.size w) ≡ v w
  unfolding save
  seen w =
      let g : t.num w < 0 + length t.names = omega (arith, t.all w) in
      rw h.is (flat-part t.num t.size t.off t.inj t.names 0 0 t.tiled v h.sized w (omega arith) g [] e refl)

  pub wrote : (w : S) (xs : List A) → length xs ≡ t.size w → (m' : List A) → m' ≡ put m (t.off w) xs → Holds t e (upd t.num v w xs) m'
  unfolding save
  wrote w xs x m' q =
      let g : t.num w < 0 + length t.names = omega (arith, t.all w) in
      record {
        is = q ∙ ap (λ (l : List A). put l (t.off w) xs) h.is
            ∙ flat-put t.num t.size t.off t.inj t.names 0 0 t.tiled v h.sized w (omega arith) g xs x [] e refl;
        sized = sized-upd t v h.sized w xs x;
      }

  pub cut_holds : cut t m ≡ v
  unfolding cut
  cut_holds = fun_ext seen

  pub length-holds : length m ≡ need t + length e
  unfolding save need
  length-holds = rw (h.is, length-append, length-flat t.size t.names v h.sized)

  pub rest-holds : drop (need t) m ≡ e
  unfolding save need
  rest-holds = rw h.is (drop_at (flat t.names v) e (total t.size t.names) (length-flat t.size t.names v h.sized))

-- ---- the whole overwritten by one value

pub fill-add : (x : Float) (a b : ℕ) → fill_of x (a + b) ≡ fill_of x a ++ fill_of x b
unfolding fill_of tab
fill-add x a zero = rw (add-zero a, append-nil (tab (λ i. x) a))
fill-add x a (suc b) =
    let e : a + suc b ≡ suc (a + b) = omega arith in
    rw (e, ← append_assoc (tab (λ i. x) a) (tab (λ i. x) b) (x ∷ [])) (ap (λ (l : List Float). l ++ (x ∷ [])) (fill-add x a b))

flat-fill : {S : Type 0} (size : S → ℕ) (ss : List S) (x : Float) → flat ss (λ s. fill_of x (size s)) ≡ fill_of x (total size ss)
unfolding flat total fill_of tab
flat-fill size [] x = refl
flat-fill size (s ∷ ss) x = ap (λ (l : List Float). fill_of x (size s) ++ l) (flat-fill size ss x) ∙ sym (fill-add x (size s) (total size ss))

pub cleared : {S : Type 0} {t : Table S} {e : List Float} {v : S → List Float} {m : List Float} → Holds t e v m → (x : Float) (m' : List Float)
    → m' ≡ put m 0 (fill_of x (need t)) → Holds t e (λ s. fill_of x (t.size s)) m'
unfolding save need
cleared {t} {e} {v} h x m' q =
    let all = total t.size t.names in
    let l : length (fill_of x all) ≡ length (flat t.names v) =
    length-fill x all ∙ sym (length-flat t.size t.names v h.sized) in
    record {
      is = q ∙ ap (λ (k : List Float). put k 0 (fill_of x all)) h.is
          ∙ put-mid [] (flat t.names v) e 0 (fill_of x all) refl l
          ∙ ap (λ (k : List Float). k ++ e) (sym (flat-fill t.size t.names x));
      sized = λ s. length-fill x (t.size s);
    }
