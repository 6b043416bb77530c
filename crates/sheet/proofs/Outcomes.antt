-- The ways out of the two calls. Assumes nothing.
use Rattle.std.specs.Prelude.{Result, ⊤, Ok, Err}
use mathlib.Core.Path.{◌≡◌, refl, sym, ap, ◌∙◌}
use mathlib.Core.List.{List}
use Prim.Native.Nat.{ℕ}
use lib.ListN.{length}
use lib.Ieee.{Float}
use Rattle.refusal.specs.declared.Refusal.{Refusal}
use Rattle.sheet_front.specs.Front.{body_of}
use Rattle.sheet_header.specs.declared.Header.{Header}
use Rattle.sheet_header.specs.Header.{n_of, p_of, header_of, header_check}
use Rattle.sheet_header.proofs.Passed.{Laid, laid-fine, passed}
use Rattle.sheet.specs.Rows.{rows_from, remaining, room_check, matrix_of, targets_of}
use Rattle.sheet.specs.Sheet.{remains, body_rows, rows_read, Outcome, Outcome.outcome, body_read, sheet_of}

-- ---- of a sheet

module _ (b : List ℕ) (R C : ℕ) (k : Result ⊤ Refusal) (e : k ≡ header_check b) where
  pub count-refused : {q : Refusal} → k ≡ Err q → Err q ≡ rows_read b R C
  unfolding rows_read
  count-refused f = rw (← e, f)

  pub count-read : (r : Result Header Refusal) → k ≡ Ok tt → r ≡ body_rows (body_of b) R C → r ≡ rows_read b R C
  unfolding rows_read
  count-read r f g = rw (← e, f, g)

-- ---- a sheet that is counted

module _ (b : List ℕ) (R C : ℕ) (o : Result Header Refusal) (e : o ≡ rows_read b R C) where
  -- the body has room for its rows, and the header is its own with the n that remains
  pub counted-header : {h : Header} → o ≡ Ok h → Laid (body_of b) × (h.n ≡ remains (body_of b)) × (h.p ≡ p_of (body_of b))
  unfolding rows_read body_rows header_of
  counted-header {h} f =
      let d = body_of b in
      let i = passed (header_check b) (sym f ∙ e) in
      let j = (passed (rows_from d (p_of d) (n_of d) 0) i.1).1 in
      let q : h ≡ header_of d (remains d) R C = cc in
      (laid-fine 1 2 b (header_check b) refl i.0, ap (λ (g : Header). g.n) q, ap (λ (g : Header). g.p) q)

  module _ (x y : List Float) where
    pub sheet-refused : {q : Refusal} → o ≡ Err q → outcome (Err q) x y ≡ sheet_of b R C x y
    unfolding sheet_of
    sheet-refused f = rw (← e, f)

    pub sheet-read : {h : Header} {u : Outcome} → o ≡ Ok h → u ≡ body_read (body_of b) h x y → u ≡ sheet_of b R C x y
    unfolding sheet_of
    sheet-read f g = rw (← e, f) g

-- ---- of a body

module _ (b : List ℕ) (R C : ℕ) (n p : ℕ) (en : n ≡ n_of b) (ep : p ≡ p_of b) (l : Result ⊤ Refusal) (el : l ≡ rows_from b p n 0) where
  pub bad-count : {q : Refusal} → l ≡ Err q → Err q ≡ body_rows b R C
  unfolding body_rows
  bad-count g = rw (← en, ← ep, ← el, g)

  pub counts_all : (h : Header) (m : ℕ) → l ≡ Ok tt → m ≡ length (remaining b p n) → h ≡ header_of b m R C → Ok h ≡ body_rows b R C
  unfolding body_rows
  counts_all h m g em eh = rw (eh, em, ← en, ← ep, ← el, g)

module _ (b : List ℕ) (h : Header) (x y : List Float) (k : Result ⊤ Refusal) (e : k ≡ room_check h.n h.p (length x) (length y)) where
  pub bad-room : {q : Refusal} → k ≡ Err q → outcome (Err q) x y ≡ body_read b h x y
  unfolding body_read
  bad-room g = rw (← e, g)

  pub reads_all : (n : ℕ) (x' y' : List Float) → k ≡ Ok tt → n ≡ n_of b → h.p ≡ p_of b → x' ≡ matrix_of b n h.p → y' ≡ targets_of b n h.p
      → outcome (Ok h) x' y' ≡ body_read b h x y
  unfolding body_read
  reads_all n x' y' g en ep ex ey = rw (ex, ey, en, ← e, g, ep)
