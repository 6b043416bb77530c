-- The whole: from the nest's sums the Gram in its slot, its panels cleared, all else as it was. Assumes nothing.
use mathlib.Core.Path.{◌≡◌, refl, sym, ap, ◌∙◌, subst}
use mathlib.Core.Bool.{Bool, true, false}
use mathlib.Core.List.{List}
use Prim.Native.Nat.{ℕ, ◌+◌, ◌-◌, ◌*◌, ◌≤◌, ◌<◌}
use native.Mathlib.Nat.{one-mul, mul-add, mul-one, mul-le-mul_right}
use native.Mathlib.Omega.{arith}
use borrow.Author.Tests.{eqb-true, eqb-false, eq-eqb, ne_eqb}
use lib.Dec.{eqb}
use lib.ListN.{length}
use lib.Ieee.{Float, nan}
use Rattle.numbers.specs.Ops.{◌⊗◌}
use Rattle.arrays.specs.Part.{part, put}
use Rattle.arrays.proofs.Part.{length-put, get_or-part, part-put-above, put-comm}
use Rattle.arrays.specs.Sums.{◌!◌, plus0}
use Rattle.arrays.specs.Vectors.{fill_of}
use Rattle.arrays.proofs.Lengths.{length-fill}
use Rattle.matrices.specs.Grid.{grid}
use Rattle.matrices.proofs.Grid.{length-grid}
use Rattle.settings.specs.declared.Terms.{Terms}
use Rattle.layout.specs.declared.Sizes.{Sizes}
use Rattle.layout.specs.declared.Places.{Places}
use Rattle.layout.specs.Slots.{Slot.CENTRE, Slot.SCALE, Slot.LEFT, Slot.RIGHT, Slot.GRAM, off, words, Has, vars, rest}
use Rattle.layout.proofs.Slots.{start, then}
use Rattle.gram_panels.specs.Panels.{mat, cell, low, right_of, from_below}
use Rattle.matrices.proofs.Lengths.{row_room}
use Rattle.gram_panels.proofs.Mats.{put-tab-tab, length-mat, mat-below, mat-in, mat-ext, mat-mat}
use Rattle.gram_panels.proofs.Square.{mirrored}
use Rattle.lazy_gram.specs.Gram.{cell_at, entry_of, lazy_gram_of, lazy_gram_store, Lent}
use Rattle.lazy_gram.specs.declared.GramPlaces.{GramPlaces}
use Rattle.lazy_gram.specs.Nest.{Like, entry, Rows, Clear, nones, raised, raised_at, gram_at}
use Rattle.lazy_gram.proofs.Likes.{like-mat, like-clear}
use Rattle.lazy_gram.proofs.Carried.{entry-like, entry-sym}

-- ---- the entries

eqb-sym : (j k : ℕ) → eqb j k ≡ eqb k j
eqb-sym j k = go (eqb k j) refl where
  go : (b : Bool) → eqb k j ≡ b → eqb j k ≡ b
  go true e = eq-eqb j k (sym (eqb-true k j e))
  go false e = ne_eqb j k (λ q. eqb-false k j e (sym q))

-- what is symmetric stays so
pub raised-sym : (gg pp : Float) (f : ℕ → ℕ → Float) → ((j k : ℕ) → f j k ≡ f k j) → (j k : ℕ) → raised gg pp (eqb j k) (f j k) ≡ raised gg pp (eqb k j) (f k j)
raised-sym gg pp f h j k = rw (eqb-sym j k, h j k)

module _ {m : List Float} {n p rr : ℕ} {s₀ : List Float} {pl : GramPlaces} (pre : Rows m n p rr s₀ pl)
    {s₁ : List Float} (e₁ : s₁ ≡ mat s₀ pl.ga p low nones p) where
  pub gram-rows : Rows m n p rr s₁ pl
  gram-rows =
      let l : length s₁ ≡ length s₀ = ap length e₁ ∙ length-mat s₀ pl.ga p low nones p in
      record {
        matrix = pre.matrix;
        rows = pre.rows;
        some = pre.some;
        any = pre.any;
        centres = pre.centres;
        scales = pre.scales;
        left = pre.left;
        right = pre.right;
        gram = omega arith;
        fits = omega arith;
      }

  pub gram-clear : Clear s₁ p pl.ga
  gram-clear j k hj hk =
      ap (λ (t : List Float). t ! (pl.ga + j * p + k)) e₁
      ∙ mat-in s₀ pl.ga p low nones p j k (λ i l. omega arith) (omega (arith, pre, row_room j p p hj)) hj hk

  gram-cells : (i b : ℕ) → b < p → cell m p s₁ pl.ce pl.sc i b ≡ cell_at p m (part s₀ pl.ce p) (part s₀ pl.sc p) i b
  unfolding cell
  gram-cells i b l =
      let below : (at : ℕ) → at + p ≤ pl.ga → s₁ ! (at + b) ≡ part s₀ at p ! b =
      λ at h. ap (λ (t : List Float). t ! (at + b)) e₁ ∙ mat-below s₀ pl.ga p low nones p (at + b) (omega arith) ∙ sym (get_or-part s₀ at p b nan l) in
      rw (below pl.ce (omega (arith, pre)), below pl.sc (omega (arith, pre)))

  pub gram-done : (gg pp : Float) (s₂ s₃ s₄ : List Float)
      → Like pl.le (pl.ri + rr * pl.cc) s₂ (mat s₁ pl.ga p low (entry (cell m p s₁ pl.ce pl.sc) n) p)
      → s₃ ≡ mat s₂ pl.ga p low (λ j. raised_at s₂ (pl.ga + j * p) gg pp j) p
      → s₄ ≡ mat s₃ (pl.ga + 1) (p + 1) (right_of p) (from_below s₃ pl.ga p) p
      → Like pl.le (pl.ri + rr * pl.cc) s₄ (put s₀ pl.ga (gram_at n p gg pp m s₀ pl.ce pl.sc))
  unfolding entry entry_of gram_at
  gram-done gg pp s₂ s₃ s₄ L₁ e₃ e₄ =
      let en = pl.ri + rr * pl.cc in
      let D = cell_at p m (part s₀ pl.ce p) (part s₀ pl.sc p) in
      let c₁ = cell m p s₁ pl.ce pl.sc in
      let S = entry D n in
      let F : ℕ → ℕ → Float = λ j i. raised gg pp (eqb j i) (S j i) in
      let M = mat s₀ pl.ga p low S p in
      let N = mat s₀ pl.ga p low F p in
      let fits : (a : ℕ) → a < p → pl.ga + a * p + low a ≤ length s₀ = λ a l. omega (arith, pre, row_room a p p l) in
      let m₁ : mat s₁ pl.ga p low (entry c₁ n) p ≡ M =
      mat-ext s₁ pl.ga p low low (entry c₁ n) S p (λ a l. refl)
      (λ a b ha hb. entry-like c₁ D n a b (λ i. gram-cells i a (omega arith)) (λ i. gram-cells i b (omega arith)))
      ∙ ap (λ (t : List Float). mat t pl.ga p low S p) e₁ ∙ mat-mat s₀ pl.ga p low nones S p (λ a l. omega arith) in
      let L : Like pl.le en s₂ M = subst (λ (t : List Float). Like pl.le en s₂ t) m₁ L₁ in
      let len : length s₂ ≡ length s₀ = L.len ∙ length-mat s₀ pl.ga p low S p in
      let t₃ : mat s₂ pl.ga p low (λ j. raised_at s₂ (pl.ga + j * p) gg pp j) p ≡ mat s₂ pl.ga p low F p =
      mat-ext s₂ pl.ga p low low (λ j. raised_at s₂ (pl.ga + j * p) gg pp j) F p (λ a l. refl)
      (λ a b ha hb.
      ap (raised gg pp (eqb a b))
      (L.high (pl.ga + a * p + b) (omega (arith, pre)) ∙ mat-in s₀ pl.ga p low S p a b (λ i l. omega arith) (fits a ha) ha hb)) in
      let L₃ : Like pl.le en s₃ N =
      subst (λ (t : List Float). Like pl.le en t N) (sym (e₃ ∙ t₃))
      (subst (λ (t : List Float). Like pl.le en (mat s₂ pl.ga p low F p) t) (mat-mat s₀ pl.ga p low S F p (λ a l. omega arith))
      (like-mat pl.le en s₂ M pl.ga p low F p (λ a l. rw len (fits a l)) L)) in
      let len₃ : length s₃ ≡ length s₀ = L₃.len ∙ length-mat s₀ pl.ga p low F p in
      let U = from_below N pl.ga p in
      let t₄ : mat s₃ (pl.ga + 1) (p + 1) (right_of p) (from_below s₃ pl.ga p) p ≡ mat s₃ (pl.ga + 1) (p + 1) (right_of p) U p =
      mat-ext s₃ (pl.ga + 1) (p + 1) (right_of p) (right_of p) (from_below s₃ pl.ga p) U p (λ a l. refl)
      (λ j b hj hb. L₃.high (pl.ga + p + j * (p + 1) + b * p) (omega (arith, pre))) in
      let L₄ : Like pl.le en (mat s₃ (pl.ga + 1) (p + 1) (right_of p) U p) (mat N (pl.ga + 1) (p + 1) (right_of p) U p) =
      like-mat pl.le en s₃ N (pl.ga + 1) (p + 1) (right_of p) U p (λ a l. omega (arith, pre, row_room a p p l, mul-add a p 1, mul-one a)) L₃ in
      subst (λ (v : List Float). Like pl.le en v (put s₀ pl.ga (grid F p p))) (sym (e₄ ∙ t₄))
      (subst (λ (v : List Float). Like pl.le en (mat s₃ (pl.ga + 1) (p + 1) (right_of p) U p) v)
      (mirrored s₀ pl.ga p F pre.gram (raised-sym gg pp S (λ a i. entry-sym D n a i))) L₄)

-- ---- in the layout

both : (s : List Float) (a k : ℕ) → put (put s a (fill_of plus0 k)) (a + k) (fill_of plus0 k) ≡ put s a (fill_of plus0 (k + k))
unfolding fill_of
both s a k = put-tab-tab s a k (λ i. plus0) k

pub length-lazy-gram : (n p : ℕ) (t : Terms) (m ce sc : List Float) → length (lazy_gram_of n p t m ce sc) ≡ p * p
unfolding lazy_gram_of
length-lazy-gram n p t m ce sc = length-grid _ p p

module _ {sh : Sizes} {l : Places} {m s₀ : List Float} (pre : Lent sh l m s₀) where
  pub lent_rows : Rows m sh.n sh.p sh.pr s₀
      (record { ce = l.centre; sc = l.scale; le = l.left; ri = l.right; cc = sh.pc; ga = l.gram })
  lent_rows =
      let laid = pre.room.laid in
      let one : 1 * sh.pc ≤ sh.pr * sh.pc = mul-le-mul_right sh.pc pre.panel-rows in
      record {
        matrix = pre.matrix;
        rows = pre.rows;
        some = pre.panel-columns;
        any = pre.panel-rows;
        centres = omega arith;
        scales = omega arith;
        left = omega arith;
        right = omega arith;
        gram = omega (arith, pre.room);
        fits = omega (arith, pre.room, one-mul sh.pc);
      }

  pub lent-order : l.left ≤ l.sums
  lent-order =
      let laid = pre.room.laid in
      omega (arith, laid.at_left, laid.at-sums)

  pub lent-fill : {a b : ℕ} {s₄ u : List Float} → Like a b s₄ u → length u ≡ length s₀ → l.left + (l.sums - l.left) ≤ length s₄
  lent-fill L e =
      let laid = pre.room.laid in
      let n = L.len ∙ e in
      omega (arith, laid.at_left, laid.at-sums, pre.room.room)

  pub lent-done : (t : Terms) (s₄ s₅ : List Float)
      → Like l.left (l.right + sh.pr * sh.pc) s₄
      (put s₀ l.gram (gram_at sh.n sh.p (t.gamma ⊗ t.gamma) (t.padding ⊗ t.padding) m s₀ l.centre l.scale))
      → s₅ ≡ put s₄ l.left (fill_of plus0 (l.sums - l.left))
      → Has sh (rest sh s₀) (lazy_gram_store sh t m (vars sh s₀)) s₅
  unfolding lazy_gram_store lazy_gram_of gram_at words
  lent-done t s₄ s₅ L e =
      let laid = pre.room.laid in
      let P = sh.pr * sh.pc in
      let G : List Float → List Float → List Float = λ ce sc. lazy_gram_of sh.n sh.p t m ce sc in
      let s₁ = put s₀ (off sh LEFT) (fill_of plus0 P) in
      let s₂ = put s₁ (off sh RIGHT) (fill_of plus0 P) in
      let kept : (a : ℕ) → a + sh.p ≤ off sh LEFT → part s₂ a sh.p ≡ part s₀ a sh.p =
      λ a h. part-put-above s₁ (off sh RIGHT) (fill_of plus0 P) a sh.p (omega arith) ∙ part-put-above s₀ (off sh LEFT) (fill_of plus0 P) a sh.p h in
      let Z = fill_of plus0 (l.sums - l.left) in
      let G₀ = G (part s₀ l.centre sh.p) (part s₀ l.scale sh.p) in
      let z : l.left + length Z ≡ l.right + P = rw length-fill (omega (arith, laid.at_left, laid.at_right, laid.at-sums)) in
      let n₄ : length s₄ ≡ length s₀ = L.len ∙ length-put s₀ l.gram G₀ in
      let f : l.right + P ≤ length s₄ = omega (arith, laid.at_right, pre.room.room) in
      let g : l.left + length Z ≤ l.gram = omega (arith, laid.at_right, laid.at-gram) in
      let k : l.sums - l.left ≡ P + P = omega (arith, laid.at_left, laid.at-sums) in
      let q : s₅ ≡ put (put s₀ l.left Z) l.gram G₀ =
      e ∙ like-clear l.left (l.right + P) s₄ (put s₀ l.gram G₀) Z z f L ∙ sym (put-comm s₀ l.left Z l.gram G₀ g) in
      let h₁ = then sh (start sh s₀ pre.room.room) LEFT (λ u. fill_of plus0 P) (length-fill plus0 P) {m' = s₁} refl in
      let h₂ = then sh h₁ RIGHT (λ u. fill_of plus0 P) (length-fill plus0 P) {m' = s₂} refl in
      let r = rw (k, laid.at_left, laid.at-gram, laid.at-centre, laid.at-scale) at q in
      then sh h₂ GRAM (λ u. G (u CENTRE) (u SCALE)) (length-lazy-gram sh.n sh.p t m _ _)
      (r ∙ rw (← both s₀ (off sh LEFT) P, ← kept (32 * sh.p) (omega arith), ← kept (33 * sh.p) (omega arith)))
