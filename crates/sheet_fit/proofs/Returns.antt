-- A lemma for each return: what a callee wrote is the text of the caller's answer. Assumes nothing.
use Rattle.whole_fit.specs.declared.Fitted.{Fitted}
use Rattle.std.specs.Prelude.{Result, ⊤, Ok, Err}
use mathlib.Core.Path.{◌≡◌, refl, sym, ap, ◌∙◌}
use mathlib.Core.List.{List, ◌∷◌}
use Prim.Native.Nat.{ℕ, zero, suc, ◌-◌, ◌*◌, ◌≤◌, ◌<◌}
use native.Mathlib.Nat.{mul-le-mul}
use native.Mathlib.Omega.{arith}
use borrow.Author.Tests.{lt-ltb, le-ltb, le-leb, lt-leb}
use lib.ListN.{length, take, replicate, length-replicate, get_or-replicate}
use lib.Seq.{ext_get_or}
use lib.Ieee.{Float}
use Rattle.arrays.specs.Part.{tab}
use Rattle.arrays.proofs.Part.{length-tab, get_or-tab}
use Rattle.arrays.specs.Sums.{plus0}
use Rattle.arrays.specs.Vectors.{fill_of}
use Rattle.refusal.specs.declared.Refusal.{Refusal}
use Rattle.refusal.specs.declared.Refusal.TheVariants.{TooLarge}
use Rattle.refusal.specs.declared.Way.{Way}
use Rattle.refusal.specs.declared.Way.TheVariants.{Converged, Limit}
use Rattle.settings.specs.declared.Settings.{Settings}
use Rattle.elastic_net.specs.ElasticNet.{done_as, Outcome}
use Rattle.whole_fit.specs.declared.Whole.{Whole}
use Rattle.whole_fit.specs.Fit.{said_final, whole_outcome, whole_of}
use Rattle.sheet_front.specs.Front.{body_of}
use Rattle.sheet_header.specs.declared.Header.{Header}
use Rattle.sheet_header.specs.Header.{n_of, p_of, header_of, header_check, header_read}
use Rattle.sheet_header.proofs.Passed.{passed}
use Rattle.sheet.specs.Rows.{room_check}
use Rattle.sheet.specs.Sheet.{rows_read, by_check, body_read, by_count, sheet_of}
use Rattle.sheet.proofs.Remaining.{place-most}
use Rattle.sheet.proofs.Outcomes.{counted-header}
use Rattle.sheet.specs.Sheet.{Outcome as SheetOutcome, Outcome.outcome as sheet-outcome}
use Rattle.answer_text.specs.Text.{Written, laid, done_text, done_of}
use Rattle.sheet_fit.specs.SheetFit.{refusal_text, bits_of, ended_text, answer_text, whole_text, fit_text, read_text, lent_text, sized_text, sheet_text}

-- ---- what was written is another's text

pub same_text : {k : Written} {t u : List ℕ} (out : List ℕ) → t ≡ u → k ≡ laid t out → k ≡ laid u out
same_text out e h = h ∙ ap (λ (l : List ℕ). laid l out) e

pub done-few : (e : Way) (r s t x : ℕ) (ws out : List ℕ) → length ws ≤ 16 → done_of e r s t x ws out ≡ laid (done_text e r s t x ws) out
unfolding done_of
done-few e r s t x ws out l = rw (le-ltb 64 (length ws) (omega arith))

-- ---- the text of an answer, and of a fit

module _ {a : Result Fitted Refusal} (ws : List ℕ) where
  pub done-text : {f : Fitted} → a ≡ Ok f → ended_text f.way f.intercept f.counts ws ≡ answer_text (said_final a) ws
  done-text {f} e = rw e (go f.way) where
    go : (v : Way) → ended_text v f.intercept f.counts ws ≡ answer_text (done_as v f.intercept f.counts) ws
    go Converged = refl
    go Limit = refl

  pub refused-text : {r : Refusal} → a ≡ Err r → refusal_text r ≡ answer_text (said_final a) ws
  refused-text e = rw e

pub whole-text : (p : ℕ) {o : Outcome} (r : Whole) {w s : List Float} {ws : List ℕ} → whole_outcome r w s ≡ o → ws ≡ bits_of p w
    → answer_text (said_final r.answer) ws ≡ whole_text p o
whole-text p r e f = rw (← e, f)

pub fit-text : (n p : ℕ) (st : Settings) (x y : List Float) {s w : List Float} → s ≡ fill_of plus0 6336 → w ≡ fill_of plus0 p
    → whole_text p (whole_of n p x y st s w) ≡ fit_text n p st x y
unfolding fit_text
fit-text n p st x y e f = rw (e, f)

-- ---- of n rows of p features

pub lent-text : (b : List ℕ) (n p : ℕ) {x y : List Float} → x ≡ fill_of plus0 (n * p) → y ≡ fill_of plus0 n → read_text (sheet_of b 32 8 x y) ≡ lent_text b n p
unfolding lent_text
lent-text b n p e f = rw (e, f)

module _ (b : List ℕ) (n p : ℕ) where
  pub many-rows : 256 < n → refusal_text TooLarge ≡ sized_text b n p
  unfolding sized_text
  many-rows l = rw (lt-leb n 256 l)

  pub many-features : n ≤ 256 → 16 < p → refusal_text TooLarge ≡ sized_text b n p
  unfolding sized_text
  many-features l h = rw (le-leb n 256 l, lt-leb p 16 h)

-- ---- of all bytes

module _ (b : List ℕ) where
  pub many-bytes : 35882 < length b → refusal_text TooLarge ≡ sheet_text b
  unfolding sheet_text
  many-bytes l = rw (lt-ltb 35882 (length b) l)

  pub header-sized : length b ≤ 35882 → {r : Result Header Refusal} → r ≡ header_read b 32 8 → {h : Header} → r ≡ Ok h → sized_text b h.n h.p ≡ sheet_text b
  unfolding sheet_text
  header-sized l e f = rw (le-ltb 35882 (length b) l, ← e, f)

-- ---- n and p are those of the header, or fewer rows

module _ (b : List ℕ) (R C : ℕ) {h : Header} where
  pub header_is : {r : Result Header Refusal} → r ≡ header_read b R C → r ≡ Ok h → (h.n ≡ n_of (body_of b)) × (h.p ≡ p_of (body_of b))
  unfolding header_read header_of
  header_is e f =
      let i = (passed (header_check b) (sym f ∙ e)).1 in
      let q : h ≡ header_of (body_of b) (n_of (body_of b)) R C = cc in
      (ap (λ (g : Header). g.n) q, ap (λ (g : Header). g.p) q)

  pub count-is : {r : Result Header Refusal} → r ≡ rows_read b R C → r ≡ Ok h → (h.n ≤ n_of (body_of b)) × (h.p ≡ p_of (body_of b))
  count-is {r} e f =
      let i = counted-header b R C r e f in
      (omega (arith, i.1, place-most (body_of b) (p_of (body_of b)) (n_of (body_of b))), i.2)

  pub sheet-is : (x y : List Float) {r : Result Header Refusal} {x' y' : List Float} → sheet-outcome r x' y' ≡ sheet_of b R C x y → r ≡ Ok h → h.p ≡ p_of (body_of b)
  unfolding sheet_of body_read
  sheet-is x y {r} {x'} {y'} e f = read (rows_read b R C) refl (rw f at e) where
    room : {k : Header} (x₁ y₁ : List Float) (c : Result ⊤ Refusal) → rows_read b R C ≡ Ok k
        → sheet-outcome (Ok h) x' y' ≡ by_check c x y (sheet-outcome (Ok k) x₁ y₁) → h.p ≡ p_of (body_of b)
    room x₁ y₁ (Ok tt) g i = (counted-header b R C (rows_read b R C) refl {h = h} (cc)).2
    room x₁ y₁ (Err q) g i =
        let z : ◌≡◌ {A = ℕ} 0 1 = cc in
        absurd (omega arith)

    read : (o : Result Header Refusal) → rows_read b R C ≡ o → sheet-outcome (Ok h) x' y' ≡ by_count o (body_of b) x y → h.p ≡ p_of (body_of b)
    read (Ok k) g i = room _ _ (room_check k.n k.p (length x) (length y)) g i
    read (Err q) g i =
        let z : ◌≡◌ {A = ℕ} 0 1 = cc in
        absurd (omega arith)

-- ---- new arrays: all +0, and the first n of them

pub all-zeros : (m : ℕ) → replicate m plus0 ≡ fill_of plus0 m
unfolding fill_of
all-zeros m =
    ext_get_or plus0 (replicate m plus0) (tab (λ i. plus0) m) (length-replicate m plus0 ∙ sym (length-tab (λ i. plus0) m))
    (λ i h. let l : i < m = omega (arith, length-replicate m plus0) in
    get_or-replicate m i plus0 plus0 l ∙ sym (get_or-tab (λ j. plus0) m i plus0 l))

take-zeros : (m n : ℕ) → n ≤ m → take n (replicate m plus0) ≡ replicate n plus0
take-zeros m zero l = refl
take-zeros zero (suc n) l = absurd (omega arith)
take-zeros (suc m) (suc n) l = ap (λ (xs : List Float). plus0 ∷ xs) (take-zeros m n (omega arith))

-- as the range 0..n
pub zeros : (m n : ℕ) → n ≤ m → take (n - 0) (replicate m plus0) ≡ fill_of plus0 n
zeros m n l =
    let e : n - 0 ≡ n = omega arith in
    rw e (take-zeros m n l ∙ all-zeros n)

pub area : (n p : ℕ) → n ≤ 256 → p ≤ 16 → n * p ≤ 4096
area n p l h = mul-le-mul l h
