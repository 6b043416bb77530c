-- What the contracts of `move_up` and `move_down` say: that the outcome is one, and that a refusal writes nothing. Assumes nothing.
use Rattle.sheet_move.specs.declared.Moved.{Moved}
use Rattle.std.specs.Prelude.{Result, ⊤, Ok, Err}
use mathlib.Core.Path.{◌≡◌, sym, ap, ◌∙◌}
use mathlib.Core.List.{List}
use Prim.Native.Nat.{ℕ}
use native.Mathlib.Omega.{arith}
use lib.ListN.{length}
use Rattle.refusal.specs.declared.Refusal.{Refusal}
use Rattle.sheet_front.specs.Front.{family_of}
use Rattle.sheet_move.specs.Move.{up_of, down_of, up_check, down_check, Outcome, Outcome.outcome, moved_by, up_move, down_move}

-- the contracts, for all input: the call answers r, and leaves out'
abbrev pub MovesUp : List ℕ → ℕ → List ℕ → Result Moved Refusal → List ℕ → Type 0
MovesUp b family out r out' = outcome r out' ≡ up_move b family out

abbrev pub MovesDown : List ℕ → List ℕ → Result Moved Refusal → List ℕ → Type 0
MovesDown b out r out' = outcome r out' ≡ down_move b out

abbrev answer_in : Outcome → Result Moved Refusal
answer_in (outcome r out) = r

abbrev output_in : Outcome → List ℕ
output_in (outcome r out) = out

same : {r q : Result Moved Refusal} {out' out'' : List ℕ} → outcome r out' ≡ outcome q out'' → (r ≡ q) × (out' ≡ out'')
same e = (ap answer_in e, ap output_in e)

spared : (c : Result ⊤ Refusal) (sheet : List ℕ) (family : ℕ) (out : List ℕ) {q : Refusal} {out' : List ℕ} → outcome (Err q) out' ≡ moved_by c sheet family out
    → out' ≡ out
spared (Err r) sheet family out e = ap output_in e
spared (Ok tt) sheet family out e =
    let z : ◌≡◌ {A = ℕ} 0 1 = cc in
    absurd (omega arith)

module _ (b : List ℕ) (family : ℕ) (out : List ℕ) where
  pub up-outcomes-coincide : {r q : Result Moved Refusal} {out' out'' : List ℕ} → MovesUp b family out r out' → MovesUp b family out q out'' → (r ≡ q) × (out' ≡ out'')
  up-outcomes-coincide c d = same (c ∙ sym d)

  pub up-refused-writes-nothing : {q : Refusal} {out' : List ℕ} → MovesUp b family out (Err q) out' → out' ≡ out
  unfolding up_move
  up-refused-writes-nothing c = spared (up_check b (length out)) (up_of family b) family out c

module _ (b out : List ℕ) where
  pub down-outcomes-coincide : {r q : Result Moved Refusal} {out' out'' : List ℕ} → MovesDown b out r out' → MovesDown b out q out'' → (r ≡ q) × (out' ≡ out'')
  down-outcomes-coincide c d = same (c ∙ sym d)

  pub down-refused-writes-nothing : {q : Refusal} {out' : List ℕ} → MovesDown b out (Err q) out' → out' ≡ out
  unfolding down_move
  down-refused-writes-nothing c = spared (down_check b (length out)) (down_of b) (family_of b) out c
