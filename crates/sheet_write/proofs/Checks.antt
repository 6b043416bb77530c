-- What the checks of a given sheet that are passed say of it, and the tests of its lengths and settings by what holds. Assumes nothing.
use Rattle.std.specs.Prelude.{Ok}
use mathlib.Core.Path.{◌≡◌}
use mathlib.Core.Bool.{true}
use Prim.Native.Nat.{ℕ, ◌*◌}
use lib.ListN.{length}
use lib.Dec.{T, leb}
use lib.Ieee.{binary64, fits}
use lib.Ieee.Bits.{is_true}
use borrow.Author.Tests.{eqb-true, eq-eqb}
use Rattle.refusal.specs.declared.Refusal.TheVariants.{Size, Length, Setting}
use Rattle.refusal.specs.Sizes.{in_size}
use Rattle.refusal.proofs.Asking.{ask-fine, both_true, known_by}
use Rattle.refusal.proofs.Sizes.{InSize, size_of}
use Rattle.settings.specs.declared.Settings.{Settings}
use Rattle.settings.specs.Settings.{allowed_of, Allowed}
use Rattle.settings.proofs.Laws.{allowed-says, allowed-when}
use Rattle.sheet_front.specs.declared.Version.{Version}
use Rattle.sheet_write.specs.Write.{Given, lengths_fine, claims_of, given_check, sheet_length, write_check}

-- a source, a target and a score for each row, and n * p features
pub record Measured (g : Given) : Type 0 where
  pub sources : length g.sources ≡ g.n
  pub targets : length g.targets ≡ g.n
  pub scores : length g.y ≡ g.n
  pub features : length g.x ≡ g.n * g.p

pub measured : (g : Given) → lengths_fine g ≡ true → Measured g
measured g h =
    let t₁ = both_true _ _ h in
    let t₂ = both_true _ _ t₁.0 in
    let t₃ = both_true _ _ t₂.0 in
    record { sources = eqb-true _ _ t₃.0; targets = eqb-true _ _ t₃.1; scores = eqb-true _ _ t₂.1; features = eqb-true _ _ t₁.1 }

pub measured-good : (g : Given) → Measured g → lengths_fine g ≡ true
measured-good g m = rw (eq-eqb _ _ m.sources, eq-eqb _ _ m.targets, eq-eqb _ _ m.scores, eq-eqb _ _ m.features)

pub measured-known : (g : Given) → Dec (Measured g)
measured-known g = known_by (measured g) (measured-good g)

module _ (st : Settings) where
  pub allowed_of_lem : allowed_of st ≡ true → Allowed st
  allowed_of_lem e = allowed-says st (rw e tt)

  -- for a tol that is a value of binary64. Every f64 is one; a `Float` of the logic may be any number.
  module _ (f : T (fits binary64 st.tol)) where
    pub allowed-good : Allowed st → allowed_of st ≡ true
    allowed-good a = is_true (allowed_of st) (allowed-when st f a)

    pub allowed-known : Dec (Allowed st)
    allowed-known = known_by allowed_of_lem allowed-good

-- none of 1, 2, 3, 14 and 15
pub record Passed (g : Given) : Type 0 where
  pub size : InSize g.n g.p
  pub lengths : Measured g
  pub settings : allowed_of g.settings ≡ true
  pub claims : claims_of g ≡ Ok tt

pub passed : (g : Given) → given_check g ≡ Ok tt → Passed g
unfolding given_check
passed g e =
    let h₁ = ask-fine (in_size g.n g.p) Size _ e in
    let h₂ = ask-fine (lengths_fine g) Length _ h₁.1 in
    let h₃ = ask-fine (allowed_of g.settings) Setting _ h₂.1 in
    record { size = size_of g.n g.p h₁.0; lengths = measured g h₂.0; settings = h₃.0; claims = h₃.1 }

-- past the output's room
pub given-fine : (v : Version) (g : Given) (room : ℕ) → write_check v g room ≡ Ok tt → given_check g ≡ Ok tt
unfolding write_check
given-fine v g room e = (ask-fine (leb (sheet_length v g.n g.p) room) Length (given_check g) e).1
