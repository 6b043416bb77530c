-- What is written is read again: a sheet's header, rows and claims, and the reader's outcome for a whole sheet of either version. Assumes nothing.
use Rattle.std.specs.Prelude.{Ok, Err}
use mathlib.Core.Path.{◌≡◌, refl, sym, ap, ◌∙◌}
use mathlib.Core.List.{List, [], ◌∷◌, ◌++◌, append_assoc, append-nil}
use Prim.Native.Nat.{ℕ, ◌+◌, ◌*◌, ◌^◌, ◌≤◌, ◌<◌}
use native.Mathlib.Nat.{add-zero, mul-le-mul_right}
use native.Mathlib.Omega.{arith}
use lib.Dec.{T}
use lib.ListN.{length, get_or, take, drop}
use lib.Seq.{get_or-drop, drop-drop, drop_at}
use lib.Ieee.{Float, binary64, fits, to_bits}
use lib.Ieee.Bits.{of_bits-to_bits, to_bits-lt}
use borrow.Author.Tests.{eq-eqb}
use Rattle.numbers.specs.Ops.{f64}
use Rattle.arrays.specs.Part.{tab}
use Rattle.arrays.specs.Sums.{◌!◌}
use Rattle.arrays.proofs.Part.{tab-ext}
use Rattle.matrices.specs.Grid.{grid}
use Rattle.matrices.proofs.Grid.{grid-ext}
use Rattle.matrices.proofs.Lengths.{row_room}
use Rattle.refusal.specs.declared.Refusal.TheVariants.{Size}
use Rattle.refusal.proofs.Sizes.{InSize}
use Rattle.settings.specs.Settings.{with_panels}
use Rattle.settings.proofs.Laws.{allowed-says}
use Rattle.big_endian.specs.Bytes.{big_endian, float_at, bytes_of, float_bytes}
use Rattle.big_endian.proofs.Bytes.{length-bytes, same_bytes, in-front, number-back}
use Rattle.sheet_front.specs.declared.Version.{Version}
use Rattle.sheet_front.specs.declared.Version.TheVariants.{One, Two}
use Rattle.sheet_front.specs.Front.{sheet_with}
use Rattle.sheet_front.proofs.Front.{sheet-long, body_back, version-number, version-back, rest_back}
use Rattle.sheet_header.specs.Flags.{flags_for}
use Rattle.sheet_header.specs.Header.{row-bytes, row_at, n_of, p_of, max_iter_of, flags_of, body_check, header_of, accept_check, header_check}
use Rattle.sheet_header.proofs.Flags.{flags-back}
use Rattle.sheet_header.proofs.Passed.{accept-fine}
use Rattle.sheet.specs.Rows.{source_of, target_of, feature_of, score_bits, score_of, left_of, remaining}
use Rattle.sheet.specs.Rows.{rows_from, matrix_of, targets_of}
use Rattle.sheet.specs.Sheet.{body_rows, rows_read, Outcome, Outcome.outcome, body_read, sheet_of}
use Rattle.sheet.proofs.Rows.{same-pairs}
use Rattle.sheet.proofs.Remaining.{place-most, uncancelled, same_left}
use Rattle.sheet.proofs.Checks.{good-room, bad-size}
use Rattle.sheet_write.specs.Write.{Given, joined, head_bytes, row_bytes, rows_bytes, body_bytes, given_check}
use Rattle.sheet_write.proofs.Joined.{joined_number}
use Rattle.sheet_write.proofs.Lengths.{features-long, row-long, body-long}
use Rattle.sheet_write.proofs.Checks.{passed, given-fine}
use Rattle.sheet_write.proofs.Unique.{Writes, written-front}
use Rattle.sheet_write.proofs.Claims.{passed-small, pairs-kept}

-- the rows that are not cancelled
abbrev pub kept : Given → List ℕ
kept g = left_of (λ i. get_or g.targets i 0) g.n

-- what reading gives of them: the settings with the reader's R and C, features and scores
abbrev pub read_back : Given → ℕ → ℕ → Outcome
read_back g R C =
    outcome
    (Ok (record { n = length (kept g); p = g.p; settings = with_panels R C g.settings }))
    (grid (λ i j. g.x ! (get_or (kept g) i 0 * g.p + j)) (length (kept g)) g.p)
    (tab (λ i. g.y ! get_or (kept g) i 0) (length (kept g)))

-- every number that is written is a value of binary64. Every f64 is one; a `Float` of the logic may be any number.
pub record Doubles (g : Given) : Type 0 where
  pub alpha : T (fits binary64 g.settings.alpha)
  pub ratio : T (fits binary64 g.settings.l1_ratio)
  pub tol : T (fits binary64 g.settings.tol)
  pub x : (i : ℕ) → i < length g.x → T (fits binary64 (g.x ! i))
  pub y : (i : ℕ) → i < length g.y → T (fits binary64 (g.y ! i))

-- ---- numbers in a list whose end, from `at` on, is known

there : (b rest : List ℕ) (at a k : ℕ) → drop at b ≡ rest → big_endian b (at + a) k ≡ big_endian rest a k
there b rest at a k e =
    same_bytes b rest (at + a) a k (λ j l.
    let q : at + a + j ≡ at + (a + j) = omega arith in
    rw (q, ← get_or-drop at b (a + j) 0, e))

behind : (b : List ℕ) (at w : ℕ) (xs rest : List ℕ) → length xs ≡ w → drop at b ≡ xs ++ rest → drop (at + w) b ≡ rest
behind b at w xs rest l e = sym (drop-drop w at b) ∙ ap (drop w) e ∙ drop_at xs rest w l

number-there : (b : List ℕ) (at k v : ℕ) (rest : List ℕ) → v < 256 ^ k → drop at b ≡ bytes_of k v ++ rest → big_endian b at k ≡ v
number-there b at k v rest h e = rw add-zero at (there b (bytes_of k v ++ rest) at 0 k e ∙ number-back k v rest h)

bits_small : (x : Float) → T (fits binary64 x) → to_bits binary64 x < 256 ^ 8
bits_small x h = omega (arith, to_bits-lt binary64 x h)

float-there : (b : List ℕ) (at : ℕ) (x : Float) (rest : List ℕ) → T (fits binary64 x) → drop at b ≡ float_bytes x ++ rest → float_at b at ≡ x
float-there b at x rest h e = ap f64 (number-there b at 8 (to_bits binary64 x) rest (bits_small x h) e) ∙ of_bits-to_bits binary64 x h

-- ---- one row

module _ (p source target : ℕ) (x : List Float) (from : ℕ) (score : Float) where
  abbrev feature : ℕ → List ℕ
  feature j = float_bytes (x ! (from + j))

  abbrev row : List ℕ
  row = row_bytes p source target x from score

  feature-long : (j : ℕ) → length (feature j) ≡ 8
  feature-long j = length-bytes 8 (to_bits binary64 (x ! (from + j)))

  all-long : length (joined feature p) ≡ 8 * p
  all-long = omega (arith, features-long x from p)

  from-target : drop 2 row ≡ bytes_of 2 target ++ (joined feature p ++ float_bytes score)
  unfolding row_bytes
  from-target = behind row 0 2 (bytes_of 2 source) _ (length-bytes 2 source) refl

  from-features : drop 4 row ≡ joined feature p ++ float_bytes score
  from-features = behind row 2 2 (bytes_of 2 target) (joined feature p ++ float_bytes score) (length-bytes 2 target) from-target

  source-there : source ≤ 999 → big_endian row 0 2 ≡ source
  unfolding row_bytes
  source-there h = number-there row 0 2 source _ (omega arith) refl

  target-there : target ≤ 999 → big_endian row 2 2 ≡ target
  target-there h = number-there row 2 2 target (joined feature p ++ float_bytes score) (omega arith) from-target

  feature-there : (j : ℕ) → j < p → T (fits binary64 (x ! (from + j))) → float_at row (4 + 8 * j) ≡ x ! (from + j)
  feature-there j h d =
      let m : 8 * j + 8 ≤ length (joined feature p) = omega (arith, all-long) in
      let q : 8 * j ≡ j * 8 + 0 = omega arith in
      let e : big_endian row (4 + 8 * j) 8 ≡ big_endian (feature j) 0 8 =
      there row (joined feature p ++ float_bytes score) 4 (8 * j) 8 from-features
      ∙ in-front (joined feature p) (float_bytes score) (8 * j) 8 m
      ∙ rw q (joined_number feature 8 feature-long p j 0 8 h (omega arith)) in
      ap f64 e ∙ float-there (feature j) 0 (x ! (from + j)) [] d (sym (append-nil (feature j)))

  score-there : to_bits binary64 score < 256 ^ 8 → big_endian row (4 + 8 * p) 8 ≡ to_bits binary64 score
  score-there h =
      number-there row (4 + 8 * p) 8 (to_bits binary64 score) [] h
      (behind row 4 (8 * p) (joined feature p) (float_bytes score) all-long from-features ∙ sym (append-nil (float_bytes score)))

-- ---- a body

module _ (g : Given) where
  abbrev d : List ℕ
  d = body_bytes g

  abbrev rows : List ℕ
  rows = rows_bytes g.p g.sources g.targets g.x g.y g.n

  -- of row i, as given
  abbrev source_in_lem : ℕ → ℕ
  source_in_lem i = get_or g.sources i 0

  abbrev target-in : ℕ → ℕ
  target-in i = get_or g.targets i 0

  abbrev bits_in : ℕ → ℕ
  bits_in i = to_bits binary64 (g.y ! i)

  -- its ends, from the field at each place on
  abbrev end-28 : List ℕ
  end-28 = bytes_of 4 g.settings.max_iter ++ (flags_for g.settings ∷ rows)

  abbrev end-20 : List ℕ
  end-20 = float_bytes g.settings.tol ++ end-28

  abbrev end-12 : List ℕ
  end-12 = float_bytes g.settings.l1_ratio ++ end-20

  abbrev end-4 : List ℕ
  end-4 = float_bytes g.settings.alpha ++ end-12

  abbrev end-2 : List ℕ
  end-2 = bytes_of 2 g.p ++ end-4

  from-0 : d ≡ bytes_of 2 g.n ++ end-2
  unfolding body_bytes head_bytes
  from-0 = simp append_assoc

  from-2 : drop 2 d ≡ end-2
  from-2 = behind d 0 2 (bytes_of 2 g.n) end-2 (length-bytes 2 g.n) from-0

  from-4 : drop 4 d ≡ end-4
  from-4 = behind d 2 2 (bytes_of 2 g.p) end-4 (length-bytes 2 g.p) from-2

  from-12 : drop 12 d ≡ end-12
  from-12 = behind d 4 8 (float_bytes g.settings.alpha) end-12 (length-bytes 8 (to_bits binary64 g.settings.alpha)) from-4

  from-20 : drop 20 d ≡ end-20
  from-20 = behind d 12 8 (float_bytes g.settings.l1_ratio) end-20 (length-bytes 8 (to_bits binary64 g.settings.l1_ratio)) from-12

  from-28 : drop 28 d ≡ end-28
  from-28 = behind d 20 8 (float_bytes g.settings.tol) end-28 (length-bytes 8 (to_bits binary64 g.settings.tol)) from-20

  from-32 : drop 32 d ≡ flags_for g.settings ∷ rows
  from-32 = behind d 28 4 (bytes_of 4 g.settings.max_iter) (flags_for g.settings ∷ rows) (length-bytes 4 g.settings.max_iter) from-28

  from-33 : drop 33 d ≡ rows
  from-33 = behind d 32 1 (flags_for g.settings ∷ []) rows refl from-32

  abbrev row_in : ℕ → List ℕ
  row_in i = row_bytes g.p (source_in_lem i) (target-in i) g.x (i * g.p) (g.y ! i)

  rows-each : (i : ℕ) → length (row_in i) ≡ row-bytes g.p
  rows-each i = row-long g.p (source_in_lem i) (target-in i) g.x (i * g.p) (g.y ! i)

  flags-there : flags_of d ≡ flags_for g.settings
  flags-there = sym (get_or-drop 32 d 0 0) ∙ ap (λ (l : List ℕ). get_or l 0 0) from-32

  -- a number that lies within row i
  row_number : (i at a k : ℕ) → i < g.n → a + k ≤ row-bytes g.p → at ≡ row_at g.p i + a → big_endian d at k ≡ big_endian (row_in i) a k
  row_number i at a k h l e =
      let q : at ≡ 33 + (i * row-bytes g.p + a) = omega arith in
      rw q (there d rows 33 (i * row-bytes g.p + a) k from-33 ∙ joined_number row_in (row-bytes g.p) rows-each g.n i a k h l)

  module _ (ok : given_check g ≡ Ok tt) where
    n-back : n_of d ≡ g.n
    n-back = number-there d 0 2 g.n end-2 (omega (arith, (passed g ok).size.rows)) from-0

    pub p_back : p_of d ≡ g.p
    p_back = number-there d 2 2 g.p end-4 (omega (arith, (passed g ok).size.columns)) from-2

    rounds-back : max_iter_of d ≡ g.settings.max_iter
    rounds-back =
        let a = allowed-says g.settings (rw (passed g ok).settings tt) in
        number-there d 28 4 g.settings.max_iter (flags_for g.settings ∷ rows) (omega (arith, a.max_iter)) from-28

    body-fine : body_check d ≡ Ok tt
    unfolding body_check
    body-fine = rw (n-back, p_back, flags-there, eq-eqb (length d) (row_at g.p g.n) (body-long g), (flags-back g.settings).0)

    -- ---- its rows

    claims-in : (i : ℕ) → i < g.n → (source_in_lem i ≤ 999) × (target-in i ≤ 999)
    claims-in = passed-small source_in_lem target-in bits_in g.n (passed g ok).claims

    module _ (i : ℕ) (h : i < g.n) where
      source-back : source_of d g.p i ≡ get_or g.sources i 0
      source-back =
          row_number i (row_at g.p i) 0 2 h (omega arith) (omega arith)
          ∙ source-there g.p (source_in_lem i) (target-in i) g.x (i * g.p) (g.y ! i) (claims-in i h).0

      target-back : target_of d g.p i ≡ get_or g.targets i 0
      target-back =
          row_number i (row_at g.p i + 2) 2 2 h (omega arith) refl
          ∙ target-there g.p (source_in_lem i) (target-in i) g.x (i * g.p) (g.y ! i) (claims-in i h).1

      bits_back : bits_in i < 256 ^ 8 → score_bits d g.p i ≡ bits_in i
      bits_back s =
          row_number i (row_at g.p i + 4 + 8 * g.p) (4 + 8 * g.p) 8 h (omega arith) (omega arith)
          ∙ score-there g.p (source_in_lem i) (target-in i) g.x (i * g.p) (g.y ! i) s

      -- bits that are 0 are read so, also where the score is no value of binary64
      no_bits : bits_in i ≡ 0 → score_bits d g.p i ≡ 0
      no_bits e = bits_back (rw e (omega arith)) ∙ e

    pub rows-fine : rows_from d (p_of d) (n_of d) 0 ≡ Ok tt
    rows-fine = rw (n-back, p_back) (
        same-pairs g.n (λ i h. (source-back i h, target-back i h, refl)) g.n 0 (omega arith)
        ∙ pairs-kept source_in_lem target-in bits_in (score_bits d g.p) g.n no_bits g.n 0 (omega arith) (passed g ok).claims)

    kept_by : remaining d g.p g.n ≡ kept g
    kept_by = same_left (target_of d g.p) target-in g.n target-back

    pub rows-kept : remaining d (p_of d) (n_of d) ≡ kept g
    rows-kept = rw (n-back, p_back) kept_by

    pub kept-size : 1 ≤ length (kept g) → InSize (length (kept g)) g.p
    kept-size h =
        let z = (passed g ok).size in
        let m : length (kept g) ≤ g.n = rw kept_by at (place-most d g.p g.n) in
        record { some-rows = h; rows = omega (arith, m, z.rows); some-columns = z.some-columns; columns = z.columns }

    kept-within : (i : ℕ) → i < length (kept g) → get_or (kept g) i 0 < g.n
    kept-within i h = rw kept_by at (uncancelled d g.p g.n i (rw kept_by h)).0

    -- ---- its floats

    module _ (D : Doubles g) where
      header-back : (k R C : ℕ) → header_of d k R C ≡ record { n = k; p = g.p; settings = with_panels R C g.settings }
      unfolding header_of
      header-back k R C =
          let f = flags-back g.settings in
          let alpha = float-there d 4 g.settings.alpha end-12 D.alpha from-4 in
          let ratio = float-there d 12 g.settings.l1_ratio end-20 D.ratio from-12 in
          let tol = float-there d 20 g.settings.tol end-28 D.tol from-20 in
          rw (p_back, alpha, ratio, tol, rounds-back, flags-there, f.1, f.2)

      module _ (i : ℕ) (h : i < g.n) where
        score-bits-back : score_bits d g.p i ≡ to_bits binary64 (g.y ! i)
        score-bits-back = bits_back i h (bits_small (g.y ! i) (D.y i (omega (arith, (passed g ok).lengths.scores))))

        score-back : score_of d g.p i ≡ g.y ! i
        score-back = ap f64 score-bits-back ∙ of_bits-to_bits binary64 (g.y ! i) (D.y i (omega (arith, (passed g ok).lengths.scores)))

        feature-back : (j : ℕ) → j < g.p → feature_of d g.p i j ≡ g.x ! (i * g.p + j)
        feature-back j l =
            let m : i * g.p + j < length g.x = omega (arith, (passed g ok).lengths.features, row_room i g.n g.p h) in
            ap f64 (row_number i (row_at g.p i + 4 + 8 * j) (4 + 8 * j) 8 h (omega arith) (omega arith))
            ∙ feature-there g.p (source_in_lem i) (target-in i) g.x (i * g.p) (g.y ! i) j l (D.x (i * g.p + j) m)

      matrix-back : matrix_of d (n_of d) (p_of d) ≡ grid (λ i j. g.x ! (get_or (kept g) i 0 * g.p + j)) (length (kept g)) g.p
      unfolding matrix_of
      matrix-back = rw (n-back, p_back, kept_by) (grid-ext _ _ (length (kept g)) g.p (λ i j h l. feature-back (get_or (kept g) i 0) (kept-within i h) j l))

      targets-back : targets_of d (n_of d) (p_of d) ≡ tab (λ i. g.y ! get_or (kept g) i 0) (length (kept g))
      unfolding targets_of
      targets-back = rw (n-back, p_back, kept_by) (tab-ext _ _ (length (kept g)) (λ i h. score-back (get_or (kept g) i 0) (kept-within i h)))

-- ---- a sheet

version-range : (v : Version) → (1 ≤ version-number v) × (version-number v ≤ 2)
version-range One = (omega arith, omega arith)
version-range (Two family) = (omega arith, omega arith)

module _ (v : Version) (g : Given) (ok : given_check g ≡ Ok tt) where
  abbrev sheet : List ℕ
  sheet = sheet_with v (body_bytes g)

  accepted-by : (first last : ℕ) → first ≤ version-number v → version-number v ≤ last → accept_check first last sheet ≡ Ok tt
  accepted-by first last h l =
      let z = (passed g ok).size in
      let short : length (body_bytes g) + 4 < 2 ^ 32 = omega (arith, body-long g, mul-le-mul_right (row-bytes g.p) z.rows) in
      accept-fine first last sheet (record {
        begun = omega (arith, sheet-long v (body_bytes g), body-long g);
        least = rw (version-back v (body_bytes g)) h;
        most = rw (version-back v (body_bytes g)) l;
        rest = rest_back v (body_bytes g) short;
        body = rw (body_back v (body_bytes g)) (body-fine g ok);
      })

  -- by a reader of its version alone, and by the reader of both
  pub written-accepted : accept_check (version-number v) (version-number v) (sheet_with v (body_bytes g)) ≡ Ok tt
  written-accepted = accepted-by (version-number v) (version-number v) (omega arith) (omega arith)

  written-headed : header_check (sheet_with v (body_bytes g)) ≡ Ok tt
  written-headed = accepted-by 1 2 (version-range v).0 (version-range v).1

  -- nothing in its bytes is refused
  body-read : (R C : ℕ) (x y : List Float) → sheet_of sheet R C x y ≡ body_read (body_bytes g) (header_of (body_bytes g) (length (kept g)) R C) x y
  unfolding sheet_of rows_read body_rows
  body-read R C x y = rw (written-headed, body_back v (body_bytes g), rows-fine g ok, rows-kept g ok)

  -- the rows that are not cancelled are read to what was given, and n is their number
  pub written-reads-back : Doubles g → 1 ≤ length (kept g)
      → (R C : ℕ) (x y : List Float) → length x ≡ length (kept g) * g.p → length y ≡ length (kept g) → sheet_of (sheet_with v (body_bytes g)) R C x y ≡ read_back g R C
  unfolding body_read
  written-reads-back D some R C x y lx ly =
      let room = good-room (length (kept g)) g.p (length x) (length y) (kept-size g ok some) (record { matrix = lx; targets = ly }) in
      body-read R C x y ∙ rw (header-back g ok D (length (kept g)) R C, room, matrix-back g ok D, targets-back g ok D)

  -- where every row is cancelled: 1, and nothing is written
  pub written-none-left : length (kept g) ≡ 0 → (R C : ℕ) (x y : List Float) → sheet_of (sheet_with v (body_bytes g)) R C x y ≡ outcome (Err Size) x y
  unfolding body_read header_of
  written-none-left e R C x y =
      body-read R C x y ∙ rw (bad-size (length (kept g)) (p_of (body_bytes g)) (length x) (length y) (λ z. omega (arith, z.some-rows)))

-- ---- through the contract: k bytes of the output

module _ (v : Version) (g : Given) (out : List ℕ) {k : ℕ} {out' : List ℕ} (c : Writes v g out (Ok k) out') where
  pub written-sheet-reads : Doubles g → 1 ≤ length (kept g)
      → (R C : ℕ) (x y : List Float) → length x ≡ length (kept g) * g.p → length y ≡ length (kept g) → sheet_of (take k out') R C x y ≡ read_back g R C
  written-sheet-reads D some R C x y lx ly =
      let f = written-front v g out c in
      rw f.2 (written-reads-back v g (given-fine v g (length out) f.0) D some R C x y lx ly)
