-- `eager_gram::gram` meets its contract: over what `fill` left the lower triangle has the sums of all rows, and the mirror makes the whole. Assumes nothing.
use Prim.Native.Nat.{ℕ, ◌+◌, ◌*◌, ◌≤◌, ◌<◌}
use mathlib.Core.Path.{◌≡◌, refl, ap, ◌∙◌}
use mathlib.Core.List.{List}
use native.Mathlib.Omega.{arith}
use lib.ListN.{length}
use lib.Ieee.{Float, nan}
use Rattle.arrays.specs.Part.{part, put}
use Rattle.arrays.proofs.Part.{length-put, get_or-part, get_or-put-below, get_or-put-tab, put-put-same}
use Rattle.arrays.specs.Sums.{◌!◌, products, plus0}
use Rattle.arrays.proofs.Folds.{fold-ext}
use Rattle.arrays.specs.Vectors.{fill_of}
use Rattle.arrays.proofs.Lengths.{length-fill}
use Rattle.matrices.proofs.Lengths.{row_room}
use Rattle.matrices.specs.Grid.{grid}
use Rattle.matrices.proofs.Grid.{length-grid}
use Rattle.layout.specs.declared.Sizes.{Sizes}
use Rattle.layout.specs.declared.Places.{Places}
use Rattle.layout.specs.Slots.{Slot.GRAM, Slot.DESIGN, Has, Room, vars, rest, words}
use Rattle.layout.proofs.Slots.{start, then}
use Rattle.several.specs.Several.{gathered, added_of}
use Rattle.gram_panels.specs.Panels.{mat, low, carry, right_of, from_below}
use Rattle.gram_panels.proofs.Mats.{mat-ext}
use Rattle.gram_panels.proofs.Square.{mirrored}
use Rattle.design.specs.Eager.{gram_of, gram_store}
use Rattle.design.proofs.Gram.{entry-symmetric}
use Rattle.eager_gram.proofs.gram.Goals as goal

cleared : (s : List Float) (g n i : ℕ) → g + n ≤ length s → i < n → put s g (fill_of plus0 n) ! (g + i) ≡ plus0
unfolding fill_of
cleared s g n i room h = get_or-put-tab s g (λ j. plus0) n i nan room h

module _ (s : List Float) (g p at k : ℕ) (above : g + p * p ≤ at) (room : at + k * p ≤ length s) {t : List Float}
    (e : t ≡ put s g (fill_of plus0 (p * p))) where
  -- the sums of the design d
  abbrev sum : List Float → ℕ → ℕ → Float
  sum d r c = products plus0 (λ i. d ! (i * p + r)) (λ i. d ! (i * p + c)) k

  none : (r c : ℕ) → r < p → c < p → t ! (g + r * p + c) ≡ plus0
  none r c h l =
      let i : g + r * p + c ≡ g + (r * p + c) = omega arith in
      rw (i, e) (cleared s g (p * p) (r * p + c) (omega arith) (omega (arith, row_room r p p h)))

  row : (i c : ℕ) → i < k → c < p → t ! (at + i * p + c) ≡ part s at (k * p) ! (i * p + c)
  row i c h l =
      let j : at + i * p + c ≡ at + (i * p + c) = omega arith in
      let m : i * p + c < k * p = omega (arith, row_room i k p h) in
      rw (j, e, get_or-part s at (k * p) (i * p + c) nan m)
      (get_or-put-below s g (fill_of plus0 (p * p)) (at + (i * p + c)) nan (omega (arith, length-fill plus0 (p * p))))

  lower : (r c : ℕ) → r < p → c < low r → carry t g p at at p k r c ≡ sum (part s at (k * p)) r c
  unfolding added_of gathered carry
  lower r c h l =
      rw (none r c h (omega arith)) (fold-ext _ _ _ _ k (λ i m.
      let place : at + r + i * p ≡ at + i * p + r = omega arith in
      rw (place, row i r m h, row i c m (omega arith))))

  whole : (u v : List Float) → u ≡ mat t g p low (carry t g p at at p k) p → v ≡ mat u (g + 1) (p + 1) (right_of p) (from_below u g p) p
      → v ≡ put s g (gram_of k p (part s at (k * p)))
  unfolding gram_of
  whole u v eu ev =
      let d = part s at (k * p) in
      let z = fill_of plus0 (p * p) in
      let low_sums : u ≡ mat t g p low (sum d) p = eu ∙ mat-ext t g p low low (carry t g p at at p k) (sum d) p (λ a l. refl) lower in
      let fits : g + p * p ≤ length t = rw (e, length-put) (omega arith) in
      ev ∙ ap (λ (r : List Float). mat r (g + 1) (p + 1) (right_of p) (from_below r g p) p) low_sums
      ∙ mirrored t g p (sum d) fits (entry-symmetric k p d)
      ∙ ap (λ (r : List Float). put r g (grid (sum d) p p)) e
      ∙ put-put-same s g z (grid (sum d) p p) (omega (arith, length-fill plus0 (p * p), length-grid (sum d) p p))

stored : (sh : Sizes) (l : Places) (s : List Float) → Room sh l s → (t u v : List Float) → t ≡ put s l.gram (fill_of plus0 (sh.p * sh.p))
    → u ≡ mat t l.gram sh.p low (carry t l.gram sh.p l.design l.design sh.p sh.stored) sh.p
    → v ≡ mat u (l.gram + 1) (sh.p + 1) (right_of sh.p) (from_below u l.gram sh.p) sh.p
    → Has sh (rest sh s) (gram_store sh (vars sh s)) v
unfolding gram_store gram_of words
stored sh l s r t u v e eu ev =
    let p = sh.p in
    let k = sh.stored in
    let q : v ≡ put s l.gram (gram_of k p (part s l.design (k * p))) =
    whole s l.gram p l.design k (omega (arith, r.laid.at-gram, r.laid.at-design)) (omega (arith, r.laid.at-design, r.room)) e u v eu ev in
    then sh (start sh s r.room) GRAM (λ w. gram_of k p (w DESIGN)) (length-grid _ p p) (rw (r.laid.at-gram, r.laid.at-design) at q)

pub returns : goal.returns
returns c =
    let g = c.args in
    stored g.sh g.l g.s.now c.requires _ _ _ c.fill.ensures c.sums.ensures c.mirror.ensures
