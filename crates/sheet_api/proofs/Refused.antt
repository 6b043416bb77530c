-- A writer or a move that refuses writes nothing but the place: the output, and the words of a move, are as they were. Assumes nothing.
use Rattle.refusal.specs.declared.Refusal.{Refusal}
use Rattle.std.specs.Prelude.{Result, ⊤, Ok, Err}
use mathlib.Core.Path.{◌≡◌, refl, sym, subst}
use mathlib.Core.Bool.{Bool, true, false, ◌&&◌, cond}
use mathlib.Core.List.{List, []}
use Prim.Native.Nat.{ℕ}
use lib.Dec.{eqb}
use lib.ListN.{length}
use lib.Ieee.{Float}
use Rattle.sheet_front.specs.declared.Version.{Version}
use Rattle.sheet_front.specs.Front.{family_of, sheet_with}
use Rattle.sheet_write.specs.Write.{given, body_bytes, write_check, laid_by, written_of}
use Rattle.sheet_move.specs.Move.{up_of, down_of, up_check, down_check, moved_by, up_move, down_move}
use Rattle.c_values.specs.Settings.{settings-words, settings_from}
use Rattle.sheet_words.specs.Words.{number_by, place_word}
use Rattle.sheet_api.specs.Writing.{CalledOut, called_out, written_as, unwritten, write_words, moved_as, unmoved, move_words, move_up_words, move_down_words}
use Rattle.sheet_api.specs.Writing.{WriteCall, UpCall, DownCall}

-- a number other than 0 comes with these words of the move and this output
abbrev Leaves : List ℕ → List ℕ → CalledOut → Type 0
Leaves mw out (called_out r mw' pw' out') = (r ≡ 0 → ⊥) → (mw' ≡ mw) × (out' ≡ out)

-- ---- a writer

-- where words are missing, and where they are there
write-leaves : (due : Bool) (c u : Result ⊤ Refusal) (sheet out pw : List ℕ)
    → Leaves [] out (cond due (written_as pw (laid_by c sheet out)) (called_out (number_by u) [] (place_word u pw) out))
write-leaves false c u sheet out pw = λ _. (refl, refl)
write-leaves true (Err r) u sheet out pw = λ _. (refl, refl)
write-leaves true (Ok tt) u sheet out pw = λ q. absurd (q refl)

pub write-call-refused : (v : Version) (n p : ℕ) (sw sources targets : List ℕ) (x y : List Float) (out pw : List ℕ) {r : ℕ} {pw' out' : List ℕ}
    → WriteCall v n p sw sources targets x y out pw r pw' out' → (r ≡ 0 → ⊥) → out' ≡ out
unfolding write_words written_of
write-call-refused v n p sw sources targets x y out pw h q =
    let g = given n p (settings_from sw) sources targets x y in
    let due = eqb (length sw) settings-words && eqb (length pw) 1 in
    let l = write-leaves due (write_check v g (length out)) (unwritten v n p (length out)) (sheet_with v (body_bytes g)) out pw in
    (subst (Leaves [] out) (sym h) l q).1

-- ---- a move

move-leaves : (due : Bool) (c u : Result ⊤ Refusal) (sheet : List ℕ) (family : ℕ) (out mw pw : List ℕ)
    → Leaves mw out (cond due (moved_as mw pw (moved_by c sheet family out)) (called_out (number_by u) mw (place_word u pw) out))
move-leaves false c u sheet family out mw pw = λ _. (refl, refl)
move-leaves true (Err r) u sheet family out mw pw = λ _. (refl, refl)
move-leaves true (Ok tt) u sheet family out mw pw = λ q. absurd (q refl)

words-leave : (c : Result ⊤ Refusal) (sheet : List ℕ) (family : ℕ) (out mw pw : List ℕ) → Leaves mw out (move_words (moved_by c sheet family out) c out mw pw)
words-leave c sheet family out mw pw = move-leaves (eqb (length mw) 2 && eqb (length pw) 1) c (unmoved c) sheet family out mw pw

pub up-call-refused : (b : List ℕ) (family : ℕ) (out mw pw : List ℕ) {r : ℕ} {mw' pw' out' : List ℕ} → UpCall b family out mw pw r mw' pw' out'
    → (r ≡ 0 → ⊥) → (mw' ≡ mw) × (out' ≡ out)
unfolding move_up_words up_move
up-call-refused b family out mw pw h q =
    subst (Leaves mw out) (sym h) (words-leave (up_check b (length out)) (up_of family b) family out mw pw) q

pub down-call-refused : (b out mw pw : List ℕ) {r : ℕ} {mw' pw' out' : List ℕ} → DownCall b out mw pw r mw' pw' out'
    → (r ≡ 0 → ⊥) → (mw' ≡ mw) × (out' ≡ out)
unfolding move_down_words down_move
down-call-refused b out mw pw h q =
    subst (Leaves mw out) (sym h) (words-leave (down_check b (length out)) (down_of b) (family_of b) out mw pw) q
