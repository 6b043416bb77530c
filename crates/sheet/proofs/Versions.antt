-- Sheets that are not of version 2 have the outcomes that they had while there was version 1 alone: the former definitions are the old texts, and where those
-- did not change the present ones. Assumes nothing.
use Rattle.refusal.specs.declared.Refusal.{Refusal}
use Rattle.std.specs.Prelude.{Result, ⊤, Ok, Err}
use mathlib.Core.Path.{◌≡◌, refl, sym, ◌∙◌}
use mathlib.Core.Bool.{Bool, true, ◌&&◌, cond}
use mathlib.Core.List.{List, [], ◌∷◌, ◌++◌}
use Prim.Native.Nat.{ℕ, zero, suc, ◌+◌, ◌%◌, ◌≤◌, ◌<◌}
use native.Mathlib.Decide.{ℕ_discrete, dec_lt}
use native.Mathlib.Omega.{arith}
use lib.Dec.{leb, eqb}
use lib.ListN.{length, get_or, drop, length-drop}
use lib.Ieee.{Float}
use borrow.Author.Tests.{leb-true, lt-leb, eq-eqb, ne_eqb}
use Rattle.arrays.specs.Part.{tab}
use Rattle.matrices.specs.Grid.{grid}
use Rattle.refusal.specs.declared.Refusal.TheVariants.{Version, SheetLength, Flags, Claim, Pair}
use Rattle.refusal.specs.Checks.{ask}
use Rattle.refusal.proofs.Asking.{refuted, both_true}
use Rattle.big_endian.specs.Bytes.{four_bytes}
use Rattle.sheet_front.specs.Front.{version_of, rest_of, body_of}
use Rattle.sheet_header.specs.declared.Header.{Header}
use Rattle.sheet_header.specs.Header.{n_of, p_of, alpha_of, ratio_of, tol_of, max_iter_of, flags_of, row_at}
use Rattle.sheet_header.specs.Header.{body_check, header_of, accept_check, header_check, read_by, header_read}
use Rattle.sheet.specs.Rows.{source_of, target_of, feature_of, score_bits, score_of, cancelled, claims_fine, above, room_check}
use Rattle.sheet.specs.Rows.{left_of, remaining, rises, pairs_from, rows_from, matrix_of, targets_of}
use Rattle.sheet.specs.Sheet.{body_rows, rows_read, Outcome, Outcome.outcome, by_check, body_read, by_count, sheet_of}

-- ---- the old texts: of a header

abbrev pub former_body_check : List ℕ → Result ⊤ Refusal
former_body_check b =
    ask (eqb (length b) (row_at (p_of b) (n_of b))) SheetLength
    (ask (leb (flags_of b) 3) Flags (Ok tt))

abbrev pub former_header_of : List ℕ → ℕ → ℕ → ℕ → Header
former_header_of b n R C = record {
  n = n;
  p = p_of b;
  settings = record {
    alpha = alpha_of b;
    l1_ratio = ratio_of b;
    tol = tol_of b;
    max_iter = max_iter_of b;
    panel_rows = R;
    panel_cols = C;
    normalise = eqb (flags_of b % 2) 1;
    lazy = leb 2 (flags_of b);
  };
}

abbrev pub former_body_of : List ℕ → List ℕ
former_body_of b = drop 5 b

abbrev pub former_check : List ℕ → Result ⊤ Refusal
former_check b =
    ask (leb 5 (length b)) SheetLength
    (ask (eqb (get_or b 0 0) 1) Version
    (ask (eqb (four_bytes b 1) (length (former_body_of b))) SheetLength
    (former_body_check (former_body_of b))))

abbrev pub former_header : List ℕ → ℕ → ℕ → Result Header Refusal
former_header b R C = read_by (former_check b) (Ok (former_header_of (former_body_of b) (n_of (former_body_of b)) R C))

-- ---- of the rows

unfoldable pub former_remaining : List ℕ → ℕ → ℕ → List ℕ
former_remaining b p zero = []
former_remaining b p (suc i) = former_remaining b p i ++ cond (cancelled b p i) [] (i ∷ [])

abbrev pub former_rises : List ℕ → ℕ → ℕ → Bool
former_rises b p zero = true
former_rises b p (suc i) = above (source_of b p i) (target_of b p i) (source_of b p (suc i)) (target_of b p (suc i))

unfoldable pub former_rows_from : List ℕ → ℕ → ℕ → ℕ → Result ⊤ Refusal
former_rows_from b p zero i = Ok tt
former_rows_from b p (suc left) i =
    ask (claims_fine (source_of b p i) (target_of b p i) (score_bits b p i)) (Claim i)
    (ask (former_rises b p i) (Pair i)
    (former_rows_from b p left (i + 1)))

abbrev pub former_matrix_of : List ℕ → ℕ → ℕ → List Float
former_matrix_of b n p =
    let rows = former_remaining b p n in
    grid (λ i j. feature_of b p (get_or rows i 0) j) (length rows) p

abbrev pub former_targets_of : List ℕ → ℕ → ℕ → List Float
former_targets_of b n p =
    let rows = former_remaining b p n in
    tab (λ i. score_of b p (get_or rows i 0)) (length rows)

-- ---- of a sheet

abbrev pub former_remains : List ℕ → ℕ
former_remains b = length (former_remaining b (p_of b) (n_of b))

abbrev pub former_body_rows : List ℕ → ℕ → ℕ → Result Header Refusal
former_body_rows b R C = read_by (former_rows_from b (p_of b) (n_of b) 0) (Ok (former_header_of b (former_remains b) R C))

abbrev pub former_rows : List ℕ → ℕ → ℕ → Result Header Refusal
former_rows b R C = read_by (former_check b) (former_body_rows (former_body_of b) R C)

abbrev pub former_body_read : List ℕ → Header → List Float → List Float → Outcome
former_body_read b h x y =
    by_check (room_check h.n h.p (length x) (length y)) x y
    (outcome (Ok h) (former_matrix_of b (n_of b) (p_of b)) (former_targets_of b (n_of b) (p_of b)))

abbrev pub former_by_count : Result Header Refusal → List ℕ → List Float → List Float → Outcome
former_by_count (Err r) b x y = outcome (Err r) x y
former_by_count (Ok h) b x y = former_body_read b h x y

abbrev pub former_sheet : List ℕ → ℕ → ℕ → List Float → List Float → Outcome
former_sheet b R C x y = former_by_count (former_rows b R C) (former_body_of b) x y

-- ---- a body is read as it was

module _ (b : List ℕ) where
  same-body-check : body_check b ≡ former_body_check b
  unfolding body_check
  same-body-check = refl

  same-header : (n R C : ℕ) → header_of b n R C ≡ former_header_of b n R C
  unfolding header_of
  same-header n R C = refl

  module _ (p : ℕ) where
    same-remaining : (n : ℕ) → remaining b p n ≡ former_remaining b p n
    unfolding left_of former_remaining
    same-remaining zero = refl
    same-remaining (suc i) = rw (same-remaining i)

    same-rises : (i : ℕ) → rises (source_of b p) (target_of b p) i ≡ former_rises b p i
    same-rises zero = refl
    same-rises (suc i) = refl

    same_rows : (left i : ℕ) → rows_from b p left i ≡ former_rows_from b p left i
    unfolding pairs_from former_rows_from
    same_rows zero i = refl
    same_rows (suc left) i = rw (same-rises i, same_rows left (i + 1))

  same-body-rows : (R C : ℕ) → body_rows b R C ≡ former_body_rows b R C
  unfolding body_rows
  same-body-rows R C = rw (same_rows (p_of b) (n_of b) 0, same-remaining (p_of b) (n_of b), same-header (former_remains b) R C)

  same-by-count : (o : Result Header Refusal) (x y : List Float) → by_count o b x y ≡ former_by_count o b x y
  unfolding body_read matrix_of targets_of
  same-by-count (Err r) x y = refl
  same-by-count (Ok h) x y = rw (same-remaining (p_of b) (n_of b))

-- ---- a sheet that is not of version 2

version-test : (v : ℕ) → (v ≡ 2 → ⊥) → leb 1 v && leb v 2 ≡ eqb v 1
version-test v h = go (ℕ_discrete v 1) where
  go : Dec (v ≡ 1) → leb 1 v && leb v 2 ≡ eqb v 1
  go (yes e) = rw e
  go (no n) =
      refuted (leb 1 v && leb v 2) (λ t.
      let u = both_true (leb 1 v) (leb v 2) t in
      n (omega (arith, h, leb-true 1 v u.0, leb-true v 2 u.1)))
      ∙ sym (ne_eqb v 1 n)

module _ (b : List ℕ) (h : version_of b ≡ 2 → ⊥) where
  body : body_of b ≡ drop 5 b
  body = rw (ne_eqb (version_of b) 2 h)

  rest-test : 5 ≤ length b → eqb (rest_of b + 5) (length b) ≡ eqb (rest_of b) (length (drop 5 b))
  rest-test l = go (ℕ_discrete (rest_of b + 5) (length b)) where
    go : Dec (rest_of b + 5 ≡ length b) → eqb (rest_of b + 5) (length b) ≡ eqb (rest_of b) (length (drop 5 b))
    go (yes e) =
        let q : rest_of b ≡ length (drop 5 b) = omega (arith, e, length-drop 5 b) in
        eq-eqb _ _ e ∙ sym (eq-eqb _ _ q)
    go (no n) = ne_eqb _ _ n ∙ sym (ne_eqb _ _ (λ (q : rest_of b ≡ length (drop 5 b)). n (omega (arith, l, q, length-drop 5 b))))

  same_check : header_check b ≡ former_check b
  unfolding accept_check
  same_check = go (dec_lt (length b) 5) where
    go : Dec (length b < 5) → header_check b ≡ former_check b
    go (yes l) = rw (lt-leb 5 (length b) l)
    go (no n) = rw (body, version-test (version_of b) h, rest-test (omega (arith, n)), same-body-check (drop 5 b))

  module _ (R C : ℕ) where
    pub header-1-as-before : header_read b R C ≡ former_header b R C
    unfolding header_read
    header-1-as-before = rw (same_check, body, same-header (drop 5 b) (n_of (drop 5 b)) R C)

    pub rows-1-as-before : rows_read b R C ≡ former_rows b R C
    unfolding rows_read
    rows-1-as-before = rw (same_check, body, same-body-rows (drop 5 b) R C)

    pub version-1-as-before : (x y : List Float) → sheet_of b R C x y ≡ former_sheet b R C x y
    unfolding sheet_of
    version-1-as-before x y = rw (rows-1-as-before, body) (same-by-count (drop 5 b) (former_rows b R C) x y)
