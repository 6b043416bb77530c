-- The refusals 11 to 13 as what holds and not as tests, and each test by them. Assumes nothing.
use Rattle.refusal.specs.declared.Refusal.{Refusal}
use Rattle.std.specs.Prelude.{Result, ⊤, Ok, Err}
use mathlib.Core.Path.{◌≡◌, refl}
use mathlib.Core.Bool.{Bool, true, false, ◌&&◌, cond}
use mathlib.Core.List.{List}
use Prim.Native.Nat.{ℕ, ◌+◌, ◌*◌, ◌≤◌, ◌<◌}
use native.Mathlib.Nat.{le_refl}
use native.Mathlib.Omega.{arith}
use lib.Dec.{leb, eqb}
use lib.ListN.{length, length-drop}
use borrow.Author.Tests.{leb-true, eqb-true, le-leb, lt-leb, eq-eqb}
use Rattle.refusal.specs.declared.Refusal.TheVariants.{Version, SheetLength, Flags}
use Rattle.refusal.specs.Checks.{ask}
use Rattle.refusal.proofs.Asking.{refuted, known_by, both_true}
use Rattle.sheet_front.specs.Front.{version_of, rest_of, body_at, body_of}
use Rattle.sheet_header.specs.Header.{row-bytes, row_at, n_of, p_of, flags_of, body_check, accept_check}

-- 11: the version is from `first` to `last`; a reader takes 1 and 2
pub record VersionIn (first last : ℕ) (b : List ℕ) : Type 0 where
  pub least : first ≤ version_of b
  pub most : version_of b ≤ last

-- what the length counts beside the rows: in version 2 the family too
abbrev pub fixed-bytes : ℕ → ℕ
fixed-bytes v = cond (eqb v 2) 37 33

-- 12: the length field is the number of the bytes after it, and 33 (37) + n(12 + 8p). Then n and p are there.
pub record Measured (b : List ℕ) : Type 0 where
  pub rest : rest_of b + 5 ≡ length b
  pub formula : rest_of b ≡ fixed-bytes (version_of b) + n_of (body_of b) * row-bytes (p_of (body_of b))

-- none of 11 to 13
pub record HeadedIn (first last : ℕ) (b : List ℕ) : Type 0 where
  pub begun : 5 ≤ length b
  pub version : VersionIn first last b
  pub measured : Measured b
  pub flags : flags_of (body_of b) ≤ 3

abbrev pub Headed : List ℕ → Type 0
Headed b = HeadedIn 1 2 b

fixed : (v : ℕ) → fixed-bytes v + 5 ≡ body_at v + 33
fixed v = go (eqb v 2) where
  go : (t : Bool) → cond t 37 33 + 5 ≡ cond t 9 5 + 33
  go true = refl
  go false = refl

pub fixed-most : (v : ℕ) → fixed-bytes v ≤ 37
fixed-most v = go (eqb v 2) where
  go : (t : Bool) → cond t 37 33 ≤ 37
  go true = le_refl 37
  go false = omega arith

-- both tests of the length have one refusal
length-refused : (s t : Bool) (rest : Result ⊤ Refusal) → (s && t ≡ true → ⊥) → ask s SheetLength (ask t SheetLength rest) ≡ Err SheetLength
length-refused false t rest h = refl
length-refused true false rest h = refl
length-refused true true rest h = absurd (h refl)

module _ (b : List ℕ) where
  abbrev field-test : Bool
  field-test = eqb (rest_of b + 5) (length b)

  abbrev rows-test : Bool
  rows-test = eqb (length (body_of b)) (row_at (p_of (body_of b)) (n_of (body_of b)))

  measured-of : field-test && rows-test ≡ true → Measured b
  measured-of h =
      let t = both_true field-test rows-test h in
      let field : rest_of b + 5 ≡ length b = eqb-true _ _ t.0 in
      let rows : length (body_of b) ≡ row_at (p_of (body_of b)) (n_of (body_of b)) = eqb-true _ _ t.1 in
      record { rest = field; formula = omega (arith, field, rows, fixed (version_of b), length-drop (body_at (version_of b)) b) }

  measured-good : Measured b → (field-test ≡ true) × (rows-test ≡ true)
  measured-good m =
      let rows : length (body_of b) ≡ row_at (p_of (body_of b)) (n_of (body_of b)) =
      omega (arith, m.rest, m.formula, fixed (version_of b), length-drop (body_at (version_of b)) b) in
      (eq-eqb _ _ m.rest, eq-eqb _ _ rows)

  pub measured-known : Dec (Measured b)
  measured-known = known_by measured-of (λ m. rw ((measured-good m).0, (measured-good m).1))

module _ (first last : ℕ) (b : List ℕ) where
  abbrev version-test : Bool
  version-test = leb first (version_of b) && leb (version_of b) last

  version_of_lem : version-test ≡ true → VersionIn first last b
  version_of_lem h =
      let t = both_true _ _ h in
      record { least = leb-true _ _ t.0; most = leb-true _ _ t.1 }

  version-good : VersionIn first last b → version-test ≡ true
  version-good k = rw (le-leb first (version_of b) k.least, le-leb (version_of b) last k.most)

  pub version-known : Dec (VersionIn first last b)
  version-known = known_by version_of_lem version-good

  module _ (begun : 5 ≤ length b) where
    pub bad-version : (VersionIn first last b → ⊥) → accept_check first last b ≡ Err Version
    unfolding accept_check
    bad-version h = rw (le-leb 5 (length b) begun, refuted version-test (λ t. h (version_of_lem t)))

    module _ (version : VersionIn first last b) where
      pub bad-measure : (Measured b → ⊥) → accept_check first last b ≡ Err SheetLength
      unfolding accept_check body_check
      bad-measure h = rw (le-leb 5 (length b) begun, version-good version) (length-refused (field-test b) (rows-test b) _ (λ t. h (measured-of b t)))

      pub bad-flags : Measured b → 3 < flags_of (body_of b) → accept_check first last b ≡ Err Flags
      unfolding accept_check body_check
      bad-flags m h =
          let t = measured-good b m in
          rw (le-leb 5 (length b) begun, version-good version, t.0, t.1, lt-leb (flags_of (body_of b)) 3 h)

  pub bad-start : length b < 5 → accept_check first last b ≡ Err SheetLength
  unfolding accept_check
  bad-start h = rw (lt-leb 5 (length b) h)

  pub good-header : HeadedIn first last b → accept_check first last b ≡ Ok tt
  unfolding accept_check body_check
  good-header h =
      let t = measured-good b h.measured in
      rw (le-leb 5 (length b) h.begun, version-good h.version, t.0, t.1, le-leb (flags_of (body_of b)) 3 h.flags)
