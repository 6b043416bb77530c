-- A turn of each loop of the nest. Assumes nothing.
use mathlib.Core.Path.{◌≡◌, refl, sym, ap, ◌∙◌, subst}
use mathlib.Core.List.{List}
use Prim.Native.Nat.{ℕ, ◌+◌, ◌-◌, ◌*◌, ◌≤◌, ◌<◌}
use native.Mathlib.Nat.{suc-mul, zero-mul, add-mul, mul-le-mul_right}
use native.Mathlib.Numerals.{add-one}
use native.Mathlib.Omega.{arith}
use lib.ListN.{length}
use lib.Ieee.{Float}
use Rattle.arrays.specs.Sums.{◌!◌}
use Rattle.arrays.proofs.Folds.{fold-none}
use Rattle.gram_panels.specs.Panels.{mat, least, same, wid, cell, panel_at, carry, Block, low}
use Rattle.matrices.proofs.Lengths.{row_room, next_row, rows-room}
use Rattle.gram_panels.proofs.Mats.{ends, length-mat, mat-below, mat-beyond, mat-in, mat-gap, mat-self, mat-ext, mat-none}
use Rattle.gram_panels.proofs.Mats.{mat-mat, mat-append, mat-wide, striped-none}
use Rattle.lazy_gram.specs.declared.GramPlaces.{GramPlaces}
use Rattle.lazy_gram.specs.Nest.{Like, tri, entry}
use Rattle.lazy_gram.specs.Nest.{next, advanced, whole, advanced_low, Lie, Pairs, Rows, Clear}
use Rattle.lazy_gram.proofs.Likes.{like-refl, like-trans, like-mat, like-panel, like-wide}
use Rattle.lazy_gram.proofs.Carried.{cell-like, carry-adv, adv-like, adv-entry}

-- what lies in a list lies in one of its length
pub lie-on : {m : List Float} {p row nr : ℕ} {s₀ s : List Float} {pl : GramPlaces} → length s ≡ length s₀ → Lie m p row nr s₀ pl → Lie m p row nr s pl
lie-on e lie = record {
  matrix = lie.matrix;
  rows = lie.rows;
  some = lie.some;
  centres = lie.centres;
  scales = lie.scales;
  left = lie.left;
  right = lie.right;
  gram = omega arith;
  fits = omega arith;
}

-- ---- the columns before a block's own

module _ {m : List Float} {p row nr : ℕ} {s₀ : List Float} {pl : GramPlaces} {jb nj : ℕ} (pre : Pairs m p row nr s₀ pl jb nj) where
  pub pairs_start : Like pl.ri (pl.ri + nr * pl.cc) s₀
      (advanced m p row nr s₀ pl (jb * pl.cc) (same (0 * pl.cc)) nj)
  pairs_start =
      let en = pl.ri + nr * pl.cc in
      let E = next (cell m p s₀ pl.ce pl.sc) s₀ (pl.ga + jb * pl.cc * p) p row nr (jb * pl.cc) in
      subst (λ (k : ℕ). Like pl.ri en s₀ (mat s₀ (pl.ga + jb * pl.cc * p) p (same k) E nj)) (sym (zero-mul pl.cc))
      (subst (λ (t : List Float). Like pl.ri en s₀ t) (sym (mat-none s₀ (pl.ga + jb * pl.cc * p) p E nj)) (like-refl pl.ri en s₀))

  pub pairs-block : (kb : ℕ) (s s₁ : List Float) → kb < jb → length s ≡ length s₀ → s₁ ≡ mat s pl.ri pl.cc (same pl.cc) (panel_at m p s pl.ce pl.sc row (kb * pl.cc)) nr
      → Block s₁ (pl.ga + jb * pl.cc * p + kb * pl.cc) p nj pl.cc (jb * pl.cc - kb * pl.cc) pl.le pl.ri pl.cc nr
  pairs-block kb s s₁ h len e =
      let hk = row_room kb jb pl.cc h in
      let hr = rows-room (jb * pl.cc) nj p p pre.cols in
      let n : length s₁ ≡ length s₀ = ap length e ∙ length-mat s pl.ri pl.cc (same pl.cc) (panel_at m p s pl.ce pl.sc row (kb * pl.cc)) nr ∙ len in
      record {
        room = omega arith;
        wide = omega arith;
        fits = omega arith;
        lefts = omega arith;
        rights = omega arith;
        left = omega arith;
        right = omega arith;
      }

  pub pairs-turn : (kb : ℕ) (s s₁ s₂ : List Float) → kb < jb
      → Like pl.ri (pl.ri + nr * pl.cc) s
      (advanced m p row nr s₀ pl (jb * pl.cc) (same (kb * pl.cc)) nj)
      → s₁ ≡ mat s pl.ri pl.cc (same pl.cc) (panel_at m p s pl.ce pl.sc row (kb * pl.cc)) nr
      → s₂ ≡ mat s₁ (pl.ga + jb * pl.cc * p + kb * pl.cc) p (wid pl.cc (jb * pl.cc - kb * pl.cc)) (carry s₁ (pl.ga + jb * pl.cc * p + kb * pl.cc) p pl.le pl.ri pl.cc nr) nj
      → Like pl.ri (pl.ri + nr * pl.cc) s₂
      (advanced m p row nr s₀ pl (jb * pl.cc) (same ((kb + 1) * pl.cc)) nj)
  pairs-turn kb s s₁ s₂ h L e₁ e₂ =
      let lie = pre.lie in
      let j = jb * pl.cc in
      let k = kb * pl.cc in
      let g = pl.ga + j * p in
      let en = pl.ri + nr * pl.cc in
      let c = cell m p s₀ pl.ce pl.sc in
      let E = next c s₀ g p row nr j in
      let Ek : ℕ → ℕ → Float = λ a b. E a (k + b) in
      let M = mat s₀ g p (same k) E nj in
      let P = panel_at m p s pl.ce pl.sc row k in
      let hk : k + pl.cc ≤ j = row_room kb jb pl.cc h in
      let room : j * p + nj * p ≤ p * p = rows-room j nj p p pre.cols in
      let len : length s ≡ length s₀ = L.len ∙ length-mat s₀ g p (same k) E nj in
      let low₀ : (q : ℕ) → q < pl.ri → s ! q ≡ s₀ ! q = λ q l. L.low q l ∙ mat-below s₀ g p (same k) E nj q (omega arith) in
      let L₁ : Like pl.ri en s₁ s =
      subst (λ (t : List Float). Like pl.ri en t s) (sym e₁)
      (like-panel pl.ri en s pl.ri pl.cc (same pl.cc) P nr (omega arith) (ends pl.ri pl.cc pl.cc (same pl.cc) nr en (λ a l. omega arith) (omega arith))) in
      let L₂ : Like pl.ri en s₁ M = like-trans pl.ri en s₁ s M L₁ L in
      let cells : (i b : ℕ) → b < pl.cc → cell m p s pl.ce pl.sc i (k + b) ≡ c i (k + b) =
      λ i b l. cell-like m p s s₀ pl.ce pl.sc i (k + b) (low₀ (pl.ce + (k + b)) (omega arith)) (low₀ (pl.sc + (k + b)) (omega arith)) in
      let base : (a b : ℕ) → a < nj → b < pl.cc → s₁ ! (g + k + a * p + b) ≡ s₀ ! (g + a * p + (k + b)) =
      λ a b ha hb.
      let e : g + k + a * p + b ≡ g + a * p + (k + b) = omega arith in
      L₂.high (g + k + a * p + b) (omega arith) ∙ ap (λ (q : ℕ). M ! q) e
      ∙ mat-gap s₀ g p (same k) E nj a (k + b) (λ i l. omega arith) (omega arith) (omega arith) in
      let lefts : (i a : ℕ) → i < nr → a < nj → s₁ ! (pl.le + i * pl.cc + a) ≡ c (row + i) (j + a) =
      λ i a hi ha.
      let hr = row_room i nr pl.cc hi in
      L₂.low (pl.le + i * pl.cc + a) (omega arith) ∙ mat-below s₀ g p (same k) E nj (pl.le + i * pl.cc + a) (omega arith) ∙ pre.held i a hi ha in
      let rights : (i b : ℕ) → i < nr → b < pl.cc → s₁ ! (pl.ri + i * pl.cc + b) ≡ c (row + i) (k + b) =
      λ i b hi hb.
      let hr = row_room i nr pl.cc hi in
      ap (λ (t : List Float). t ! (pl.ri + i * pl.cc + b)) e₁
      ∙ mat-in s pl.ri pl.cc (same pl.cc) P nr i b (λ a l. omega arith) (omega arith) hi hb ∙ cells (row + i) b hb in
      let t : mat s₁ (g + k) p (wid pl.cc (j - k)) (carry s₁ (g + k) p pl.le pl.ri pl.cc nr) nj ≡ mat s₁ (g + k) p (same pl.cc) Ek nj =
      mat-ext s₁ (g + k) p (wid pl.cc (j - k)) (same pl.cc) (carry s₁ (g + k) p pl.le pl.ri pl.cc nr) Ek nj (λ a l. omega arith)
      (λ a b ha hb.
      carry-adv c s₁ (g + k) p pl.le pl.ri pl.cc row (s₀ ! (g + a * p + (k + b))) nr a b (j + a) (k + b) (base a b ha (omega arith)) (λ i hi. lefts i a hi ha)
      (λ i hi. rights i b hi (omega arith))) in
      let len₁ : length s₁ ≡ length s₀ = L₁.len ∙ len in
      let L₃ : Like pl.ri en (mat s₁ (g + k) p (same pl.cc) Ek nj) (mat M (g + k) p (same pl.cc) Ek nj) =
      like-mat pl.ri en s₁ M (g + k) p (same pl.cc) Ek nj (ends (g + k) p pl.cc (same pl.cc) nj (length s₁) (λ a l. omega arith) (omega arith)) L₂ in
      let w : mat M (g + k) p (same pl.cc) Ek nj ≡ mat s₀ g p (same (k + pl.cc)) E nj = mat-wide s₀ g p k (same pl.cc) E nj (λ a l. omega arith) in
      let q : (kb + 1) * pl.cc ≡ k + pl.cc = rw (add-one, suc-mul) in
      subst (λ (z : ℕ). Like pl.ri en s₂ (mat s₀ g p (same z) E nj)) (sym q)
      (subst (λ (v : List Float). Like pl.ri en v (mat s₀ g p (same (k + pl.cc)) E nj)) (sym (e₂ ∙ t))
      (subst (λ (v : List Float). Like pl.ri en (mat s₁ (g + k) p (same pl.cc) Ek nj) v) w L₃))

-- ---- a block of columns, once its left panel is filled

module _ {m : List Float} {p row nr : ℕ} {s₀ : List Float} {pl : GramPlaces} (lie : Lie m p row nr s₀ pl) (jb : ℕ) (in_p : jb * pl.cc < p)
    {nj : ℕ} (enj : nj ≡ least (p - jb * pl.cc) pl.cc) {s₁ : List Float} (e₁ : s₁ ≡ mat s₀ pl.le pl.cc (same nj) (panel_at m p s₀ pl.ce pl.sc row (jb * pl.cc)) nr) where
  column-panel : Like pl.le (pl.ri + nr * pl.cc) s₁ s₀
  column-panel =
      let en = pl.ri + nr * pl.cc in
      subst (λ (t : List Float). Like pl.le en t s₀) (sym e₁)
      (like-panel pl.le en s₀ pl.le pl.cc (same nj) (panel_at m p s₀ pl.ce pl.sc row (jb * pl.cc)) nr (omega arith)
      (ends pl.le pl.cc pl.cc (same nj) nr en (λ a l. omega arith) (omega (arith, lie))))

  column-cells : (i b : ℕ) → b < p → cell m p s₁ pl.ce pl.sc i b ≡ cell m p s₀ pl.ce pl.sc i b
  column-cells i b l =
      cell-like m p s₁ s₀ pl.ce pl.sc i b (column-panel.low (pl.ce + b) (omega (arith, lie))) (column-panel.low (pl.sc + b) (omega (arith, lie)))

  column-held : (i a : ℕ) → i < nr → a < nj → s₁ ! (pl.le + i * pl.cc + a) ≡ cell m p s₀ pl.ce pl.sc (row + i) (jb * pl.cc + a)
  column-held i a hi ha =
      let hr = row_room i nr pl.cc hi in
      ap (λ (t : List Float). t ! (pl.le + i * pl.cc + a)) e₁
      ∙ mat-in s₀ pl.le pl.cc (same nj) (panel_at m p s₀ pl.ce pl.sc row (jb * pl.cc)) nr i a (λ z l. omega arith) (omega (arith, lie)) hi ha

  pub column-pairs : Pairs m p row nr s₁ pl jb nj
  column-pairs =
      record {
        lie = lie-on column-panel.len lie;
        cols = omega arith;
        width = omega arith;
        held = λ i a hi ha. column-held i a hi ha ∙ sym (column-cells (row + i) (jb * pl.cc + a) (omega arith));
      }

  pub column-block : (s₂ : List Float)
      → Like pl.ri (pl.ri + nr * pl.cc) s₂ (advanced m p row nr s₁ pl (jb * pl.cc) (same (jb * pl.cc)) nj)
      → Block s₂ (pl.ga + jb * pl.cc * p + jb * pl.cc) p nj nj 0 pl.le pl.le pl.cc nr
  column-block s₂ L =
      let hr = rows-room (jb * pl.cc) nj p p (omega arith) in
      let n : length s₂ ≡ length s₀ = L.len ∙ length-mat s₁ (pl.ga + jb * pl.cc * p) p (same (jb * pl.cc)) _ nj ∙ column-panel.len in
      record {
        room = omega (arith, lie);
        wide = omega arith;
        fits = omega (arith, lie);
        lefts = omega arith;
        rights = omega arith;
        left = omega (arith, lie);
        right = omega (arith, lie);
      }

  pub column-turn : (s₂ s₃ : List Float)
      → Like pl.ri (pl.ri + nr * pl.cc) s₂ (advanced m p row nr s₁ pl (jb * pl.cc) (same (jb * pl.cc)) nj)
      → s₃ ≡ mat s₂ (pl.ga + jb * pl.cc * p + jb * pl.cc) p (wid nj 0) (carry s₂ (pl.ga + jb * pl.cc * p + jb * pl.cc) p pl.le pl.le pl.cc nr) nj
      → Like pl.le (pl.ri + nr * pl.cc) s₃ (advanced m p row nr s₀ pl (jb * pl.cc) (tri (jb * pl.cc)) nj)
  column-turn s₂ s₃ LR e₃ =
      let j = jb * pl.cc in
      let g = pl.ga + j * p in
      let en = pl.ri + nr * pl.cc in
      let c = cell m p s₀ pl.ce pl.sc in
      let E = next c s₀ g p row nr j in
      let Ej : ℕ → ℕ → Float = λ a b. E a (j + b) in
      let E₁ = next (cell m p s₁ pl.ce pl.sc) s₁ g p row nr j in
      let W : ℕ → ℕ = λ a. a + 1 in
      let room : j * p + nj * p ≤ p * p = rows-room j nj p p (omega arith) in
      let L₁ = column-panel in
      let M₁ = mat s₁ g p (same j) E₁ nj in
      let M = mat s₀ g p (same j) E nj in
      let m₁ : M₁ ≡ mat s₁ g p (same j) E nj =
      mat-ext s₁ g p (same j) (same j) E₁ E nj (λ a l. refl)
      (λ a b ha hb.
      adv-like (cell m p s₁ pl.ce pl.sc) c row (s₁ ! (g + a * p + b)) (s₀ ! (g + a * p + b)) nr (j + a) b (L₁.high (g + a * p + b) (omega (arith, lie)))
      (λ i. column-cells i (j + a) (omega arith)) (λ i. column-cells i b (omega arith))) in
      let n₁ : length s₁ ≡ length s₀ = L₁.len in
      let L₂ : Like pl.le en s₂ M =
      like-trans pl.le en s₂ M₁ M (like-wide pl.le en (omega (arith, lie)) (omega arith) LR)
      (subst (λ (t : List Float). Like pl.le en t M) (sym m₁)
      (like-mat pl.le en s₁ s₀ g p (same j) E nj (ends g p p (same j) nj (length s₁) (λ a l. omega arith) (omega (arith, lie))) L₁)) in
      let base : (a b : ℕ) → a < nj → b < nj → s₂ ! (g + j + a * p + b) ≡ s₀ ! (g + a * p + (j + b)) =
      λ a b ha hb.
      let e : g + j + a * p + b ≡ g + a * p + (j + b) = omega arith in
      L₂.high (g + j + a * p + b) (omega (arith, lie)) ∙ ap (λ (q : ℕ). M ! q) e
      ∙ mat-gap s₀ g p (same j) E nj a (j + b) (λ i l. omega arith) (omega arith) (omega arith) in
      let held : (i a : ℕ) → i < nr → a < nj → s₂ ! (pl.le + i * pl.cc + a) ≡ c (row + i) (j + a) =
      λ i a hi ha.
      let hr = row_room i nr pl.cc hi in
      LR.low (pl.le + i * pl.cc + a) (omega (arith, lie)) ∙ mat-below s₁ g p (same j) E₁ nj (pl.le + i * pl.cc + a) (omega (arith, lie)) ∙ column-held i a hi ha in
      let t : mat s₂ (g + j) p (wid nj 0) (carry s₂ (g + j) p pl.le pl.le pl.cc nr) nj ≡ mat s₂ (g + j) p W Ej nj =
      mat-ext s₂ (g + j) p (wid nj 0) W (carry s₂ (g + j) p pl.le pl.le pl.cc nr) Ej nj (λ a l. omega arith)
      (λ a b ha hb.
      carry-adv c s₂ (g + j) p pl.le pl.le pl.cc row (s₀ ! (g + a * p + (j + b))) nr a b (j + a) (j + b) (base a b ha (omega arith)) (λ i hi. held i a hi ha)
      (λ i hi. held i b hi (omega arith))) in
      let n₂ : length s₂ ≡ length s₀ = L₂.len ∙ length-mat s₀ g p (same j) E nj in
      let L₃ : Like pl.le en (mat s₂ (g + j) p W Ej nj) (mat M (g + j) p W Ej nj) =
      like-mat pl.le en s₂ M (g + j) p W Ej nj (ends (g + j) p nj W nj (length s₂) (λ a l. omega arith) (omega (arith, lie))) L₂ in
      let w : mat M (g + j) p W Ej nj ≡ mat s₀ g p (tri j) E nj = mat-wide s₀ g p j W E nj (λ a l. omega arith) in
      subst (λ (v : List Float). Like pl.le en v (mat s₀ g p (tri j) E nj)) (sym (e₃ ∙ t))
      (subst (λ (v : List Float). Like pl.le en (mat s₂ (g + j) p W Ej nj) v) w L₃)

-- ---- one more block of columns, and one more of rows

module _ {m : List Float} {p row nr : ℕ} {s₀ : List Float} {pl : GramPlaces} (lie : Lie m p row nr s₀ pl) where
  pub block-turn : (jb : ℕ) (s s' : List Float) → jb * pl.cc < p
      → Like pl.le (pl.ri + nr * pl.cc) s (advanced_low m p row nr s₀ pl (least p (jb * pl.cc)))
      → Like pl.le (pl.ri + nr * pl.cc) s'
      (advanced m p row nr s pl (jb * pl.cc) (tri (jb * pl.cc)) (least (p - jb * pl.cc) pl.cc))
      → Like pl.le (pl.ri + nr * pl.cc) s' (advanced_low m p row nr s₀ pl (least p ((jb + 1) * pl.cc)))
  block-turn jb s s' hj L₀ L₂ =
      let j = jb * pl.cc in
      let c = cell m p s₀ pl.ce pl.sc in
      let c₁ = cell m p s pl.ce pl.sc in
      let W = whole c s₀ pl.ga p row nr in
      let g = pl.ga + j * p in
      let en = pl.ri + nr * pl.cc in
      let nj = least (p - j) pl.cc in
      let M = mat s₀ pl.ga p low W j in
      let E = next c₁ s g p row nr j in
      let Wj : ℕ → ℕ → Float = λ a. W (j + a) in
      let lj : ℕ → ℕ = λ a. low (j + a) in
      let ml : least p j ≡ j = omega arith in
      let mn : least p ((jb + 1) * pl.cc) ≡ j + nj = omega (arith, next_row jb pl.cc) in
      let L : Like pl.le en s M = subst (λ (k : ℕ). Like pl.le en s (mat s₀ pl.ga p low W k)) ml L₀ in
      let room : j * p + nj * p ≤ p * p = rows-room j nj p p (omega arith) in
      let len : length s ≡ length s₀ = L.len ∙ length-mat s₀ pl.ga p low W j in
      let lows : (q : ℕ) → q < pl.le → s ! q ≡ s₀ ! q = λ q l. L.low q l ∙ mat-below s₀ pl.ga p low W j q (omega (arith, lie)) in
      let cells : (i b : ℕ) → b < p → c₁ i b ≡ c i b =
      λ i b l. cell-like m p s s₀ pl.ce pl.sc i b (lows (pl.ce + b) (omega (arith, lie))) (lows (pl.sc + b) (omega (arith, lie))) in
      let base : (a b : ℕ) → s ! (g + a * p + b) ≡ s₀ ! (pl.ga + (j + a) * p + b) =
      λ a b.
      let e : g + a * p + b ≡ pl.ga + (j + a) * p + b = omega (arith, add-mul j a p) in
      L.high (g + a * p + b) (omega (arith, lie))
      ∙ mat-beyond s₀ pl.ga p low W j (g + a * p + b) (ends pl.ga p p low j (g + a * p + b) (λ z l. omega arith) (omega arith))
      ∙ ap (λ (q : ℕ). s₀ ! q) e in
      let t : mat s g p (tri j) E nj ≡ mat s g p lj Wj nj =
      mat-ext s g p (tri j) lj E Wj nj (λ a l. omega arith)
      (λ a b ha hb.
      adv-like c₁ c row (s ! (g + a * p + b)) (s₀ ! (pl.ga + (j + a) * p + b)) nr (j + a) b (base a b) (λ i. cells i (j + a) (omega arith))
      (λ i. cells i b (omega arith))) in
      let L₃ : Like pl.le en (mat s g p lj Wj nj) (mat M g p lj Wj nj) =
      like-mat pl.le en s M g p lj Wj nj (ends g p p lj nj (length s) (λ a l. omega arith) (omega (arith, lie))) L in
      subst (λ (k : ℕ). Like pl.le en s' (mat s₀ pl.ga p low W k)) (sym mn)
      (like-trans pl.le en s' (mat s g p (tri j) E nj) (mat s₀ pl.ga p low W (j + nj)) L₂
      (subst (λ (v : List Float). Like pl.le en v (mat s₀ pl.ga p low W (j + nj))) (sym t)
      (subst (λ (v : List Float). Like pl.le en (mat s g p lj Wj nj) v) (mat-append s₀ pl.ga p low W j nj) L₃)))

pub block_start : (le en ga p : ℕ) (s : List Float) (W : ℕ → ℕ → Float) → Like le en s (mat s ga p low W (least p 0))
block_start le en ga p s W =
    let e : least p 0 ≡ 0 = omega arith in
    subst (λ (k : ℕ). Like le en s (mat s ga p low W k)) (sym e)
    (subst (λ (t : List Float). Like le en s t) (striped-none s ga p low W p).is (like-refl le en s))

pub rows_start : (p : ℕ) (s : List Float) (le en ga : ℕ) (c : ℕ → ℕ → Float) → ga + p * p ≤ length s → Clear s p ga
    → Like le en s (mat s ga p low (entry c 0) p)
unfolding entry
rows_start p s le en ga c h z =
    subst (λ (t : List Float). Like le en s t)
    (sym
    (mat-self s ga p low (entry c 0) p (ends ga p p low p (length s) (λ a l. omega arith) (omega arith)) (λ j k hj hk. fold-none _ _ _ ∙ sym (z j k hj hk))))
    (like-refl le en s)

pub rows_lie : {m : List Float} {n p rr : ℕ} {s₀ : List Float} {pl : GramPlaces} → Rows m n p rr s₀ pl
    → (row nr : ℕ) (s : List Float) → row ≤ n → nr ≡ least (n - row) rr → length s ≡ length s₀ → Lie m p row nr s pl
rows_lie {n = n} {p} {rr} {pl = pl} pre row nr s hr e len =
    let a : nr * pl.cc ≤ rr * pl.cc = mul-le-mul_right pl.cc (omega arith) in
    let b : (row + nr) * p ≤ n * p = mul-le-mul_right p (omega arith) in
    record {
      matrix = omega arith;
      rows = omega arith;
      some = pre.some;
      centres = pre.centres;
      scales = pre.scales;
      left = omega arith;
      right = omega arith;
      gram = omega arith;
      fits = omega arith;
    }

-- the panels of the last band may be shorter than those before
pub rows-turn : {m : List Float} {n p rr : ℕ} {s₀ : List Float} {pl : GramPlaces} → Rows m n p rr s₀ pl → {row nr : ℕ} → row ≤ n → nr ≡ least (n - row) rr
    → (s s' : List Float) → Like pl.le (pl.ri + rr * pl.cc) s (mat s₀ pl.ga p low (entry (cell m p s₀ pl.ce pl.sc) row) p)
    → Like pl.le (pl.ri + nr * pl.cc) s' (advanced_low m p row nr s pl p)
    → Like pl.le (pl.ri + rr * pl.cc) s' (mat s₀ pl.ga p low (entry (cell m p s₀ pl.ce pl.sc) (row + nr)) p)
rows-turn {m} {n} {p} {rr} {s₀} {pl} pre {row} {nr} hr e s s' L L₁ =
    let lie = rows_lie pre row nr s₀ hr e refl in
    let en = pl.ri + rr * pl.cc in
    let he : nr * pl.cc ≤ rr * pl.cc = mul-le-mul_right pl.cc (omega arith) in
    let hg = pre.right in
    let c = cell m p s₀ pl.ce pl.sc in
    let c₁ = cell m p s pl.ce pl.sc in
    let M = mat s₀ pl.ga p low (entry c row) p in
    let F = entry c (row + nr) in
    let Q = whole c₁ s pl.ga p row nr in
    let len : length s ≡ length s₀ = L.len ∙ length-mat s₀ pl.ga p low (entry c row) p in
    let lows : (q : ℕ) → q < pl.le → s ! q ≡ s₀ ! q = λ q l. L.low q l ∙ mat-below s₀ pl.ga p low (entry c row) p q (omega (arith, lie)) in
    let cells : (i b : ℕ) → b < p → c₁ i b ≡ c i b =
    λ i b l. cell-like m p s s₀ pl.ce pl.sc i b (lows (pl.ce + b) (omega (arith, lie))) (lows (pl.sc + b) (omega (arith, lie))) in
    let t : mat s pl.ga p low Q p ≡ mat s pl.ga p low F p =
    mat-ext s pl.ga p low low Q F p (λ a l. refl)
    (λ a b ha hb.
    adv-like c₁ c row (s ! (pl.ga + a * p + b)) (entry c row a b) nr a b
    (L.high (pl.ga + a * p + b) (omega arith)
    ∙ mat-in s₀ pl.ga p low (entry c row) p a b (λ i l. omega arith) (omega (arith, lie, row_room a p p ha)) ha hb)
    (λ i. cells i a (omega arith)) (λ i. cells i b (omega arith))
    ∙ adv-entry c row nr a b) in
    let L₃ : Like pl.le en (mat s pl.ga p low F p) (mat M pl.ga p low F p) =
    like-mat pl.le en s M pl.ga p low F p (ends pl.ga p p low p (length s) (λ a l. omega arith) (omega (arith, lie))) L in
    like-trans pl.le en s' (mat s pl.ga p low Q p) (mat s₀ pl.ga p low F p) (like-wide pl.le en (omega arith) (omega arith) L₁)
    (subst (λ (v : List Float). Like pl.le en v (mat s₀ pl.ga p low F p)) (sym t)
    (subst (λ (v : List Float). Like pl.le en (mat s pl.ga p low F p) v) (mat-mat s₀ pl.ga p low (entry c row) F p (λ a l. omega arith)) L₃))
