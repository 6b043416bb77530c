-- What the library says of a range of a slice, as parts and puts, and of a fold, as `fold_to`. Assumes nothing.
use mathlib.Core.Path.{◌≡◌, refl, sym, ap, ◌∙◌, subst}
use mathlib.Core.List.{List, [], ◌∷◌, ◌++◌, append_assoc}
use Prim.Native.Nat.{ℕ, zero, suc, ◌+◌, ◌-◌, ◌≤◌}
use native.Mathlib.Numerals.{add-one}
use native.Mathlib.Omega.{arith}
use borrow.Rule.Slice.PartMut.{put_mid}
use lib.ListN.{length, get_or, take, drop, replicate, length-append, get_or-append}
use lib.Seq.{sets-eq, drop-drop, get_or-append-add}
use lib.Ieee.{Float, nan}
use denote.Param.Members.{Mut}
use denote.Ref.{Bor}
use Rattle.std.specs.Fn.{Called}
use Rattle.std.specs.Iterator.{FoldsItems}
use Rattle.std.specs.List.{zip}
use Rattle.std.specs.Prelude.{Option}
use Rattle.std.proofs.lemmas.Fn.{fold_over}
use Rattle.std.proofs.lemmas.Grind.{replicate_next}
use Rattle.std.proofs.iter.Yields.{fronts}
use Rattle.std.proofs.lemmas.Iterator.{YieldsList, YieldsList-from_slice, YieldsList-from_zip, zips}
use Rattle.std.proofs.lemmas.Slice.Zip.{get_or-zip, length-zip}
use Rattle.std.proofs.Common.{Iter}
use Rattle.std.specs.Slice.Iter.{iter_rest}
use Rattle.std.specs.declared.iter.Zip.{Zip}
use Rattle.std.specs.Iterator.Adapters.{zip_first, zip_second}
use Rattle.arrays.specs.Part.{part, put, tab}
use Rattle.arrays.specs.Sums.{◌!◌, fold_to}
use Rattle.arrays.specs.Vectors.{fill_of}
use Rattle.arrays.proofs.Part.{length_part}
use Rattle.arrays.proofs.Folds.{fold-none, fold-ext, fold-turn}

module _ {A : Type 0} where
  -- `s[a..a + n]`, which the library has by its end
  pub range-part : (s : List A) (a n : ℕ) → take (a + n - a) (drop a s) ≡ part s a n
  unfolding part
  range-part s a n =
      let e : a + n - a ≡ n = omega arith in
      rw e

  pub length_range : (s : List A) (a n : ℕ) → a + n ≤ length s → length (take (a + n - a) (drop a s)) ≡ n
  length_range s a n h = rw range-part (length_part s a n h)

  -- what is in `s` once that range holds xs
  pub put-range : (s : List A) (a n : ℕ) {ys : List A} (xs : List A) → ys ≡ xs → length xs ≡ n → a + n ≤ length s → put_mid a (a + n - a) s ys ≡ put s a xs
  unfolding put
  put-range s a n xs same e h =
      let k : a + n - a ≡ length xs = omega arith in
      let l : a + length xs ≤ length s = omega arith in
      rw (same, k, sets-eq xs s a l, drop-drop (length xs) a s) (sym (append_assoc (take a s) xs (drop (a + length xs) s)))

replicate-fill : (n : ℕ) (x : Float) → replicate n x ≡ fill_of x n
unfolding fill_of tab
replicate-fill zero x = refl
replicate-fill (suc n) x = ap (λ (k : ℕ). replicate k x) (sym (add-one n)) ∙ replicate_next n x ∙ ap (λ (l : List Float). l ++ (x ∷ [])) (replicate-fill n x)

-- what `fill` leaves in a range
pub fill-range : (s : List Float) (a n : ℕ) (x : Float) → a + n ≤ length s → replicate (length (take (a + n - a) (drop a s))) x ≡ fill_of x n
fill-range s a n x h = rw (range-part s a n, length_part s a n h) (replicate-fill n x)

-- ---- `fold`, of a closure that takes g with `term z` at each z

-- from f on, which no call changes, the closure takes t to g t (term x)
abbrev pub Takes : {A F : Type 0} → Mut F (Float × (A × Unit {0})) Float → F → (Float → Float → Float) → (A → Float) → Type 0
Takes {A} {F} c f g term = (t : Float) (x : A) (r : Float) (f' : F) → Called c f (t, (x, tt)) r f' → (r ≡ g t (term x)) × (f' ≡ f)

fold-push : {B : Type 0} (g : Float → Float → Float) (term : B → Float) (d : B) (start : Float) (zs : List B) (t : Float) (z : B)
    → t ≡ fold_to g start (λ i. term (get_or zs i d)) (length zs)
    → g t (term z) ≡ fold_to g start (λ i. term (get_or (zs ++ (z ∷ [])) i d)) (length (zs ++ (z ∷ [])))
fold-push g term d start zs t z e =
    let l = length-append zs (z ∷ []) in
    let q : length zs + 0 ≡ length zs = omega arith in
    let last = rw q at (get_or-append-add zs (z ∷ []) 0 d) in
    let same = fold-ext g start _ _ (length zs) (λ i h. ap term (sym (get_or-append zs (z ∷ []) d i h))) in
    rw l (fold-turn g start _ (length zs) t (term z) (e ∙ same) (ap term (sym last)))

module _ {S A B F : Type 0} {steps : S → Option A → S → Type 0} {v : A → B} (c : Mut F (Float × (A × Unit {0})) Float) (g : Float → Float → Float) (term : B → Float) {f : F} (call : Takes c f g (λ x. term (v x))) where
  folds : (d : B) {s : S} {zs : List B} {start r : Float} → YieldsList steps v s zs
      → FoldsItems steps c s f start r
      → r ≡ fold_to g start (λ i. term (get_or zs i d)) (length zs)
  folds d {s} {zs} {start} {r} y ran =
      fold_over steps v c (λ ys t. t ≡ fold_to g start (λ i. term (get_or ys i d)) (length ys)) f
      (λ ys t x b f' j k. let one = call t x b f' k in (rw one.0 (fold-push g term d start ys t (v x) j), one.1))
      s zs start r y.runs (sym (fold-none g start _)) ran

-- a fold over a part, and over two side by side
module _ {F : Type 0} {c : Mut F (Float × (Bor Float × Unit {0})) Float} (g : Float → Float → Float) (term : Float → Float) {f : F} (call : Takes c f g (λ x. term x.now)) where
  pub folds-part : {s : Iter Float} {start r : Float} (x : List Float) (a n : ℕ) → iter_rest s ≡ take (a + n - a) (drop a x) → a + n ≤ length x
      → FoldsItems fronts c s f start r
      → r ≡ fold_to g start (λ i. term (part x a n ! i)) n
  folds-part {start = start} {r = r} x a n e h ran =
      let y = YieldsList-from_slice (part x a n) (e ∙ range-part x a n) in
      subst (λ (k : ℕ). r ≡ fold_to g start (λ i. term (part x a n ! i)) k) (length_part x a n h) (folds c g term call nan y ran)

module _ {F : Type 0} {c : Mut F (Float × ((Bor Float × Bor Float) × Unit {0})) Float} (g h : Float → Float → Float) {f : F} (call : Takes c f g (λ p. h p.0.now p.1.now)) where
  pub folds-parts : {s : Zip (Iter Float) (Iter Float)} {start r : Float} (x : List Float) (a : ℕ) (y : List Float) (b n : ℕ)
      → iter_rest (zip_first s) ≡ take (a + n - a) (drop a x) → iter_rest (zip_second s) ≡ take (b + n - b) (drop b y) → a + n ≤ length x → b + n ≤ length y
      → FoldsItems (zips fronts fronts) c s f start r
      → r ≡ fold_to g start (λ i. h (part x a n ! i) (part y b n ! i)) n
  folds-parts {start = start} {r = r} x a y b n ex ey hx hy ran =
      let us = part x a n in
      let vs = part y b n in
      let lx : length us ≡ n = length_part x a n hx in
      let ly : length vs ≡ n = length_part y b n hy in
      let l : length (zip us vs) ≡ n = rw (length-zip us vs, lx, ly) (omega arith) in
      let all = YieldsList-from_zip (YieldsList-from_slice us (ex ∙ range-part x a n)) (YieldsList-from_slice vs (ey ∙ range-part y b n)) in
      let q = folds c g (λ (p : Float × Float). h p.0 p.1) call (nan, nan) all ran in
      rw l at q ∙ fold-ext g start _ _ n (λ i k. ap (λ (p : Float × Float). h p.0 p.1) (get_or-zip us vs i (nan, nan) (omega arith) (omega arith)))
