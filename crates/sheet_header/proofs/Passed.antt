-- What a header's checks that are passed say of the bytes. Assumes nothing.
use Rattle.refusal.specs.declared.Refusal.{Refusal}
use Rattle.std.specs.Prelude.{Result, ⊤, Ok, Err}
use mathlib.Core.Path.{◌≡◌, refl, sym, ap, ◌∙◌}
use mathlib.Core.Bool.{◌&&◌}
use mathlib.Core.List.{List}
use Prim.Native.Nat.{ℕ, ◌+◌, ◌-◌, ◌≤◌}
use native.Mathlib.Nat.{le_of_eq}
use native.Mathlib.Omega.{arith}
use lib.Dec.{leb, eqb}
use lib.ListN.{length, take, drop, length-drop}
use lib.Seq.{take_all}
use borrow.Author.Tests.{leb-true, eqb-true, le-leb, eq-eqb}
use Rattle.refusal.specs.declared.Refusal.TheVariants.{Version, SheetLength}
use Rattle.refusal.proofs.Asking.{ask-fine, both_true}
use Rattle.sheet_front.specs.Front.{version_of, rest_of, body_at, body_of}
use Rattle.sheet_header.specs.declared.Header.{Header}
use Rattle.sheet_header.specs.Header.{n_of, p_of, row_at, body_check, accept_check, read_by}

-- the part that is lent from `at` on, as the code has it
abbrev pub lent-from : List ℕ → ℕ → List ℕ
lent-from b at = take (length b - at) (drop at b)

pub body-lent : (b : List ℕ) (at : ℕ) → at ≡ body_at (version_of b) → lent-from b at ≡ body_of b
body-lent b at e = take_all (length b - at) (drop at b) (le_of_eq (length-drop at b)) ∙ ap (λ (k : ℕ). drop k b) e

-- the body is as long as its n and p say
abbrev pub Laid : List ℕ → Type 0
Laid b = length b ≡ row_at (p_of b) (n_of b)

pub body-begun : (b : List ℕ) → Laid (body_of b) → 1 ≤ length b
body-begun b l = omega (arith, l, length-drop (body_at (version_of b)) b)

-- a body that is there begins within the sheet
pub body-within : (b : List ℕ) (at : ℕ) → at ≡ body_at (version_of b) → Laid (body_of b) → at ≤ length b
body-within b at e l = omega (arith, l, e, length-drop (body_at (version_of b)) b)

-- none of 11 to 13, where the versions from `first` to `last` are accepted
pub record Accepted (first last : ℕ) (b : List ℕ) : Type 0 where
  pub begun : 5 ≤ length b
  pub least : first ≤ version_of b
  pub most : version_of b ≤ last
  pub rest : rest_of b + 5 ≡ length b
  pub body : body_check (body_of b) ≡ Ok tt

module _ (first last : ℕ) (b : List ℕ) where
  pub accepted : accept_check first last b ≡ Ok tt → Accepted first last b
  unfolding accept_check
  accepted e =
      let h₁ = ask-fine (leb 5 (length b)) SheetLength _ e in
      let h₂ = ask-fine (leb first (version_of b) && leb (version_of b) last) Version _ h₁.1 in
      let h₃ = ask-fine (eqb (rest_of b + 5) (length b)) SheetLength _ h₂.1 in
      let v = both_true (leb first (version_of b)) (leb (version_of b) last) h₂.0 in
      record { begun = leb-true _ _ h₁.0; least = leb-true _ _ v.0; most = leb-true _ _ v.1; rest = eqb-true _ _ h₃.0; body = h₃.1 }

  pub accept-fine : Accepted first last b → accept_check first last b ≡ Ok tt
  unfolding accept_check
  accept-fine a =
      rw (le-leb 5 (length b) a.begun, le-leb first (version_of b) a.least, le-leb (version_of b) last a.most, eq-eqb (rest_of b + 5) (length b) a.rest)
      a.body

  pub laid-fine : (k : Result ⊤ Refusal) → k ≡ accept_check first last b → k ≡ Ok tt → Laid (body_of b)
  unfolding body_check
  laid-fine k e f =
      let d = body_of b in
      eqb-true _ _ (ask-fine (eqb (length d) (row_at (p_of d) (n_of d))) SheetLength _ (accepted (sym e ∙ f)).body).0

-- where the check is passed, the body begins within the sheet, and is there as it is lent
pub record BodyThere (b : List ℕ) (at : ℕ) : Type 0 where
  pub within : at ≤ length b
  pub laid : Laid (lent-from b at)

pub body-there : (first last : ℕ) (b : List ℕ) (k : Result ⊤ Refusal) (at : ℕ) → k ≡ accept_check first last b → k ≡ Ok tt → at ≡ body_at (version_of b)
    → BodyThere b at
body-there first last b k at e f a =
    let l = laid-fine first last b k e f in
    record { within = body-within b at a l; laid = rw (body-lent b at a) l }

-- what is read has passed its check
pub passed : {h : Header} (k : Result ⊤ Refusal) {o : Result Header Refusal} → Ok h ≡ read_by k o → (k ≡ Ok tt) × (Ok h ≡ o)
passed (Ok tt) e = (refl, e)
passed (Err q) e =
    let z : ◌≡◌ {A = ℕ} 0 1 = cc in
    absurd (omega arith)
