-- Any two outcomes that a contract permits coincide. Assumes nothing.
use mathlib.Core.Path.{◌≡◌, sym, ap, ◌∙◌}
use mathlib.Core.List.{List}
use Prim.Native.Nat.{ℕ}
use lib.Ieee.{Float}
use Rattle.sheet_front.specs.declared.Version.{Version}
use Rattle.sheet_api.specs.Calls.{Called, called, HeaderCall, CountCall, SheetCall}
use Rattle.sheet_api.specs.Writing.{CalledOut, called_out, WriteCall, UpCall, DownCall}

abbrev number_of : Called → ℕ
number_of (called r h p x y) = r

abbrev header_of : Called → List ℕ
header_of (called r h p x y) = h

abbrev place_of : Called → List ℕ
place_of (called r h p x y) = p

abbrev matrix_of : Called → List Float
matrix_of (called r h p x y) = x

abbrev targets_of : Called → List Float
targets_of (called r h p x y) = y

outcomes-coincide : {o : Called} {r r' : ℕ} {h h' p p' : List ℕ} {x x' y y' : List Float} → called r h p x y ≡ o → called r' h' p' x' y' ≡ o
    → (r ≡ r') × (h ≡ h') × (p ≡ p') × (x ≡ x') × (y ≡ y')
outcomes-coincide l k =
    let e = l ∙ sym k in
    (ap number_of e, ap header_of e, ap place_of e, ap matrix_of e, ap targets_of e)

pub header-call-unique : (b : List ℕ) (R C : ℕ) (hw : List ℕ) {r r' : ℕ} {hw₁ hw₂ : List ℕ} → HeaderCall b R C hw r hw₁ → HeaderCall b R C hw r' hw₂
    → (r ≡ r') × (hw₁ ≡ hw₂)
header-call-unique b R C hw l k =
    let e = outcomes-coincide l k in
    (e.0, e.1)

pub count-call-unique : (b : List ℕ) (R C : ℕ) (hw pw : List ℕ) {r r' : ℕ} {hw₁ hw₂ pw₁ pw₂ : List ℕ} → CountCall b R C hw pw r hw₁ pw₁
    → CountCall b R C hw pw r' hw₂ pw₂ → (r ≡ r') × (hw₁ ≡ hw₂) × (pw₁ ≡ pw₂)
count-call-unique b R C hw pw l k =
    let e = outcomes-coincide l k in
    (e.0, e.1, e.2)

pub sheet-call-unique : (b : List ℕ) (R C : ℕ) (x y : List Float) (hw pw : List ℕ) {r r' : ℕ} {hw₁ hw₂ pw₁ pw₂ : List ℕ} {x₁ x₂ y₁ y₂ : List Float}
    → SheetCall b R C x y hw pw r hw₁ pw₁ x₁ y₁ → SheetCall b R C x y hw pw r' hw₂ pw₂ x₂ y₂
    → (r ≡ r') × (hw₁ ≡ hw₂) × (pw₁ ≡ pw₂) × (x₁ ≡ x₂) × (y₁ ≡ y₂)
sheet-call-unique b R C x y hw pw l k = outcomes-coincide l k

-- ---- the calls that write a sheet

abbrev said_in : CalledOut → ℕ
said_in (called_out r m p out) = r

abbrev moved_in : CalledOut → List ℕ
moved_in (called_out r m p out) = m

abbrev place_in : CalledOut → List ℕ
place_in (called_out r m p out) = p

abbrev output_in : CalledOut → List ℕ
output_in (called_out r m p out) = out

called-once : {o : CalledOut} {r r' : ℕ} {m m' p p' out out' : List ℕ} → called_out r m p out ≡ o → called_out r' m' p' out' ≡ o
    → (r ≡ r') × (m ≡ m') × (p ≡ p') × (out ≡ out')
called-once l k =
    let e = l ∙ sym k in
    (ap said_in e, ap moved_in e, ap place_in e, ap output_in e)

pub write-call-unique : (v : Version) (n p : ℕ) (sw sources targets : List ℕ) (x y : List Float) (out pw : List ℕ) {r r' : ℕ} {pw₁ pw₂ out₁ out₂ : List ℕ}
    → WriteCall v n p sw sources targets x y out pw r pw₁ out₁ → WriteCall v n p sw sources targets x y out pw r' pw₂ out₂
    → (r ≡ r') × (pw₁ ≡ pw₂) × (out₁ ≡ out₂)
write-call-unique v n p sw sources targets x y out pw l k =
    let e = called-once l k in
    (e.0, e.2, e.3)

pub up-call-unique : (b : List ℕ) (family : ℕ) (out mw pw : List ℕ) {r r' : ℕ} {mw₁ mw₂ pw₁ pw₂ out₁ out₂ : List ℕ} → UpCall b family out mw pw r mw₁ pw₁ out₁
    → UpCall b family out mw pw r' mw₂ pw₂ out₂ → (r ≡ r') × (mw₁ ≡ mw₂) × (pw₁ ≡ pw₂) × (out₁ ≡ out₂)
up-call-unique b family out mw pw l k = called-once l k

pub down-call-unique : (b out mw pw : List ℕ) {r r' : ℕ} {mw₁ mw₂ pw₁ pw₂ out₁ out₂ : List ℕ} → DownCall b out mw pw r mw₁ pw₁ out₁
    → DownCall b out mw pw r' mw₂ pw₂ out₂ → (r ≡ r') × (mw₁ ≡ mw₂) × (pw₁ ≡ pw₂) × (out₁ ≡ out₂)
down-call-unique b out mw pw l k = called-once l k
