-- What the contract of `write_sheet` says: that the outcome is one, that a refusal writes nothing, that a sheet stands at the output's front, and that what is
-- behind it stays. Assumes nothing.
use Rattle.std.specs.Prelude.{Result, ⊤, Ok, Err, ℕ}
use mathlib.Core.Path.{◌≡◌, refl, sym, ap, ◌∙◌}
use mathlib.Core.List.{List}
use Prim.Native.Nat.{ℕ, ◌+◌, ◌≤◌}
use native.Mathlib.Omega.{arith}
use lib.Dec.{leb}
use lib.ListN.{length, take, drop}
use borrow.Author.Tests.{leb-true}
use Rattle.arrays.specs.Part.{put}
use Rattle.refusal.specs.declared.Refusal.{Refusal}
use Rattle.refusal.specs.declared.Refusal.TheVariants.{Length}
use Rattle.refusal.proofs.Asking.{ask-fine}
use Rattle.sheet_front.specs.declared.Version.{Version}
use Rattle.sheet_front.specs.Front.{front_bytes, sheet_with}
use Rattle.sheet_front.proofs.Front.{sheet-long, laid-there}
use Rattle.sheet_header.specs.Header.{row_at}
use Rattle.sheet_write.specs.Write.{Given, body_bytes, write_check, Outcome, Outcome.outcome, laid_by, written_of}
use Rattle.sheet_write.proofs.Lengths.{body-long}

-- the contract of `write_sheet`, for all input: it answers r, and leaves out'
abbrev pub Writes : Version → Given → List ℕ → Result ℕ Refusal → List ℕ → Type 0
Writes v g out r out' = outcome r out' ≡ written_of v g out

abbrev answer_in : Outcome → Result ℕ Refusal
answer_in (outcome r out) = r

abbrev output_in : Outcome → List ℕ
output_in (outcome r out) = out

abbrev bytes_in : Result ℕ Refusal → ℕ
bytes_in (Ok k) = k
bytes_in (Err q) = 0

spared : (k : Result ⊤ Refusal) (sheet out : List ℕ) {q : Refusal} {out' : List ℕ} → outcome (Err q) out' ≡ laid_by k sheet out → out' ≡ out
spared (Err r) sheet out e = ap output_in e
spared (Ok tt) sheet out e =
    let z : ◌≡◌ {A = ℕ} 0 1 = cc in
    absurd (omega arith)

laid : (c : Result ⊤ Refusal) (sheet out : List ℕ) {k : ℕ} {out' : List ℕ} → outcome (Ok k) out' ≡ laid_by c sheet out
    → (c ≡ Ok tt) × (k ≡ length sheet) × (out' ≡ put out 0 sheet)
laid (Ok tt) sheet out e = (refl, ap (λ (o : Outcome). bytes_in (answer_in o)) e, ap output_in e)
laid (Err r) sheet out e =
    let z : ◌≡◌ {A = ℕ} 0 1 = cc in
    absurd (omega arith)

module _ (v : Version) (g : Given) (out : List ℕ) where
  -- where nothing is refused the output has room for the sheet
  sheet-room : write_check v g (length out) ≡ Ok tt → length (sheet_with v (body_bytes g)) ≤ length out
  unfolding write_check
  sheet-room f =
      let k = front_bytes v + row_at g.p g.n in
      let l = leb-true k (length out) (ask-fine (leb k (length out)) Length _ f).0 in
      omega (arith, sheet-long v (body_bytes g), body-long g)

  pub outcomes-coincide : {r q : Result ℕ Refusal} {out' out'' : List ℕ} → Writes v g out r out' → Writes v g out q out'' → (r ≡ q) × (out' ≡ out'')
  outcomes-coincide c d =
      let e = c ∙ sym d in
      (ap answer_in e, ap output_in e)

  pub refused-writes-nothing : {q : Refusal} {out' : List ℕ} → Writes v g out (Err q) out' → out' ≡ out
  unfolding written_of
  refused-writes-nothing c = spared (write_check v g (length out)) (sheet_with v (body_bytes g)) out c

  pub written-front : {k : ℕ} {out' : List ℕ} → Writes v g out (Ok k) out'
      → (write_check v g (length out) ≡ Ok tt)
      × (k ≡ length (sheet_with v (body_bytes g)))
      × (take k out' ≡ sheet_with v (body_bytes g))
      × (drop k out' ≡ drop k out)
  unfolding written_of
  written-front {k} c =
      let sheet = sheet_with v (body_bytes g) in
      let t = laid (write_check v g (length out)) sheet out c in
      let there = laid-there sheet out (sheet-room t.0) in
      (t.0, t.1, rw (t.1, t.2) there.0, rw (t.1, t.2) there.1)
