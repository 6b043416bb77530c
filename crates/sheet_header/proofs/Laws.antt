-- What the contract of `read_header` says: which refusal for which sheet, and that a header with no fault is read. Assumes nothing.
use Rattle.sheet_header.specs.declared.Header.{Header}
use Rattle.std.specs.Prelude.{Err, Ok, Result}
use mathlib.Core.Path.{◌≡◌, refl, ap, ◌∙◌}
use mathlib.Core.Logic.{◌⊎◌, inl, inr}
use mathlib.Core.List.{List}
use Prim.Native.Nat.{ℕ, ◌≤◌, ◌<◌}
use native.Mathlib.Decide.{dec_lt}
use native.Mathlib.Omega.{arith}
use lib.ListN.{length}
use Rattle.refusal.specs.declared.Refusal.{Refusal}
use Rattle.refusal.specs.declared.Refusal.TheVariants.{Version, SheetLength, Flags}
use Rattle.refusal.specs.Refusal.{number_of, place_of}
use Rattle.sheet_front.specs.Front.{body_of}
use Rattle.sheet_header.specs.Header.{n_of, flags_of, header_of, accept_check, header_check, header_read, Said.refused, said}
use Rattle.sheet_header.proofs.Checks.{VersionIn, Measured, HeadedIn, Headed, version-known, measured-known}
use Rattle.sheet_header.proofs.Checks.{bad-start, bad-version, bad-measure, bad-flags, good-header}

-- ---- the header's refusals, in 01's order

-- where the versions from `first` to `last` are accepted
module _ (first last : ℕ) (b : List ℕ) where
  -- refusal k at place i is the first that holds
  pub data HeaderRefusalIn : ℕ → ℕ → Type 0 where
    short : length b < 5 → HeaderRefusalIn 12 0
    version : 5 ≤ length b → (VersionIn first last b → ⊥) → HeaderRefusalIn 11 0
    measure : 5 ≤ length b → VersionIn first last b → (Measured b → ⊥) → HeaderRefusalIn 12 0
    flags : 5 ≤ length b → VersionIn first last b → Measured b → 3 < flags_of (body_of b) → HeaderRefusalIn 13 0

  pub header-told : {k i : ℕ} → HeaderRefusalIn k i → (q : Refusal) × (accept_check first last b ≡ Err q) × (number_of q ≡ k) × (place_of q ≡ i)
  header-told (short h) = (SheetLength, bad-start first last b h, refl, refl)
  header-told (version s h) = (Version, bad-version first last b s h, refl, refl)
  header-told (measure s v h) = (SheetLength, bad-measure first last b s v h, refl, refl)
  header-told (flags s v m h) = (Flags, bad-flags first last b s v m h, refl, refl)

  abbrev Told : Type 0
  Told = HeadedIn first last b ⊎ ((k : ℕ) × (i : ℕ) × HeaderRefusalIn k i)

  -- every sheet is in one row of the table, or in none
  pub every-header : HeadedIn first last b ⊎ ((k : ℕ) × (i : ℕ) × HeaderRefusalIn k i)
  every-header = begins (dec_lt (length b) 5) where
    flagged : 5 ≤ length b → VersionIn first last b → Measured b → Dec (3 < flags_of (body_of b)) → Told
    flagged s v m (yes g) = inr (13, 0, flags s v m g)
    flagged s v m (no g) = inl (record { begun = s; version = v; measured = m; flags = omega (arith, g) })

    measures : 5 ≤ length b → VersionIn first last b → Dec (Measured b) → Told
    measures s v (yes m) = flagged s v m (dec_lt 3 (flags_of (body_of b)))
    measures s v (no m) = inr (12, 0, measure s v m)

    versions : 5 ≤ length b → Dec (VersionIn first last b) → Told
    versions s (yes v) = measures s v (measured-known b)
    versions s (no v) = inr (11, 0, version s v)

    begins : Dec (length b < 5) → Told
    begins (yes h) = inr (12, 0, short h)
    begins (no h) = versions (omega (arith, h)) (version-known first last b)

-- for a reader
abbrev pub HeaderRefusal : List ℕ → ℕ → ℕ → Type 0
HeaderRefusal b k i = HeaderRefusalIn 1 2 b k i

module _ (b : List ℕ) where
  header_refused : (R C : ℕ) {q : Refusal} → header_check b ≡ Err q → header_read b R C ≡ Err q
  unfolding header_read
  header_refused R C f = rw f

  -- 01's number and place are those of the first refusal that holds
  pub first-header-refusal : (R C : ℕ) {r : Result Header Refusal} → r ≡ header_read b R C → {k i : ℕ} → HeaderRefusal b k i → said r ≡ refused k i
  first-header-refusal R C c h =
      let t = header-told 1 2 b h in
      ap said (c ∙ header_refused R C t.1) ∙ rw (t.2, t.3)

  -- where none holds, the header is read
  pub headed-read : (R C : ℕ) {r : Result Header Refusal} → r ≡ header_read b R C → Headed b → r ≡ Ok (header_of (body_of b) (n_of (body_of b)) R C)
  unfolding header_read
  headed-read R C c h = c ∙ rw (good-header 1 2 b h)
