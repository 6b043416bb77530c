-- Tests in a row: what one that fails and what one that is passed says. Assumes nothing.
use Rattle.std.specs.Prelude.{Option, None, Some, Result, ⊤, Ok, Err}
use mathlib.Core.Path.{◌≡◌, refl}
use mathlib.Core.Bool.{Bool, true, false, ◌&&◌}
use mathlib.Core.List.{List, ◌++◌}
use Prim.Native.Nat.{ℕ, ◌+◌}
use native.Mathlib.Omega.{arith}
use lib.ListN.{length}
use lib.Ieee.{Float}
use Rattle.arrays.specs.Scan.{first_infinite}
use Rattle.refusal.specs.declared.Refusal.{Refusal}
use Rattle.refusal.specs.Checks.{ask, ask_values, found_at}
use Rattle.arrays.proofs.Scans.{opposed, or_else, further, scan-append, scan-at}

pub refuted : (t : Bool) → (t ≡ true → ⊥) → t ≡ false
refuted true h = absurd (h refl)
refuted false h = refl

-- a test that holds where A does, and only there, decides A
pub known_by : {A : Type 0} {t : Bool} → (t ≡ true → A) → (A → t ≡ true) → Dec A
known_by {A} {t} of good = go t refl where
  go : (u : Bool) → t ≡ u → Dec A
  go true e = yes (of e)
  go false e = no (λ a. opposed t e (good a))

pub both_true : (p q : Bool) → p && q ≡ true → (p ≡ true) × (q ≡ true)
both_true true q h = (refl, h)
both_true false q h = absurd (opposed false refl h)

pub ask-fine : (t : Bool) (r : Refusal) (rest : Result ⊤ Refusal) → ask t r rest ≡ Ok tt → (t ≡ true) × (rest ≡ Ok tt)
ask-fine true r rest h = (refl, h)
ask-fine false r rest h =
    let z : ◌≡◌ {A = ℕ} 0 1 = cc in
    absurd (omega arith)

-- ---- refusal 5 over lists in a row

-- one check, and then another
abbrev pub then : Result ⊤ Refusal → Result ⊤ Refusal → Result ⊤ Refusal
then (Ok u) rest = rest
then (Err r) rest = Err r

module _ (k : ℕ) (a : List Float) (rest : Result ⊤ Refusal) where
  pub values-last : ask_values (first_infinite k a) rest ≡ then (found_at (first_infinite 0 a) k) rest
  values-last = rw (scan-at k a) (go (first_infinite 0 a)) where
    go : (f : Option ℕ) → ask_values (further k f) rest ≡ then (found_at f k) rest
    go None = refl
    go (Some i) = refl

  pub values-more : (b : List Float) → ask_values (first_infinite k (a ++ b)) rest ≡ then (found_at (first_infinite 0 a) k) (ask_values (first_infinite (k + length a) b) rest)
  values-more b = rw (scan-append k a b, scan-at k a) (go (first_infinite 0 a)) where
    go : (f : Option ℕ) → ask_values (or_else (further k f) (first_infinite (k + length a) b)) rest ≡ then (found_at f k) (ask_values (first_infinite (k + length a) b) rest)
    go None = refl
    go (Some i) = refl
