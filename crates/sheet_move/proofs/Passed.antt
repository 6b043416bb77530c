-- What a move's check that is passed says of the sheet: its version, its length, and that of its body. Assumes nothing.
use Rattle.refusal.specs.declared.Refusal.{Refusal}
use Rattle.std.specs.Prelude.{Result, ⊤, Ok, Err}
use mathlib.Core.Path.{◌≡◌, refl, sym, ap}
use mathlib.Core.Bool.{Bool, true, false, cond}
use mathlib.Core.List.{List}
use Prim.Native.Nat.{ℕ, ◌+◌, ◌*◌, ◌^◌, ◌-◌, ◌≤◌, ◌<◌}
use native.Mathlib.Nat.{mul-le-mul}
use native.Mathlib.Omega.{arith}
use lib.Dec.{leb, eqb}
use lib.ListN.{length, length-drop}
use lib.Seq.{get_or-drop}
use borrow.Author.Tests.{leb-true}
use Rattle.refusal.specs.declared.Refusal.TheVariants.{Size, Length}
use Rattle.refusal.specs.Checks.{ask}
use Rattle.refusal.specs.Sizes.{in_size}
use Rattle.refusal.proofs.Asking.{ask-fine}
use Rattle.refusal.proofs.Sizes.{InSize, size_of}
use Rattle.big_endian.specs.Bytes.{big_endian, two_bytes}
use Rattle.big_endian.proofs.Bytes.{Bytes}
use Rattle.sheet_front.specs.Front.{version_of, body_at, body_of}
use Rattle.sheet_header.specs.Header.{n_of, p_of, accept_check}
use Rattle.sheet_header.proofs.Passed.{Laid, body-within, Accepted, accepted, laid-fine}
use Rattle.sheet.specs.Rows.{ahead, rows_from}
use Rattle.sheet.specs.Sheet.{remains}
use Rattle.sheet_move.specs.Move.{body_moves, move_check, up_check, down_check}

ahead-fine : (c d : Result ⊤ Refusal) → ahead c d ≡ Ok tt → (c ≡ Ok tt) × (d ≡ Ok tt)
ahead-fine (Ok tt) d e = (refl, e)
ahead-fine (Err r) d e =
    let z : ◌≡◌ {A = ℕ} 0 1 = cc in
    absurd (omega arith)

-- a sheet of version v that is moved
pub record Movable (v : ℕ) (b : List ℕ) : Type 0 where
  pub accepted : Accepted v v b
  pub laid : Laid (body_of b)
  pub body : body_moves (body_of b) ≡ Ok tt
  pub size : InSize (remains (body_of b)) (p_of (body_of b))

module _ (v : ℕ) (b : List ℕ) where
  pub movable : move_check v b ≡ Ok tt → Movable v b
  unfolding move_check body_moves
  movable e =
      let d = body_of b in
      let h = ahead-fine (accept_check v v b) (body_moves d) e in
      let s = ask-fine (in_size (remains d) (p_of d)) Size (Ok tt) (ahead-fine (rows_from d (p_of d) (n_of d) 0) _ h.1).1 in
      record { accepted = accepted v v b h.0; laid = laid-fine v v b _ refl h.0; body = h.1; size = size_of _ _ s.0 }

  module _ (m : Movable v b) where
    pub version-is : version_of b ≡ v
    version-is = omega (arith, m.accepted)

    pub body-from : body_at v ≡ body_at (version_of b)
    body-from = ap body_at (sym version-is)

    pub sheet-length : length b ≡ body_at v + length (body_of b)
    sheet-length = omega (arith, length-drop (body_at (version_of b)) b, body-from, body-within b (body_at v) body-from m.laid)

-- ---- the checks of the calls, with the room that they ask for

room-passed : (need room : ℕ) (rest : Result ⊤ Refusal) → ask (leb need room) Length rest ≡ Ok tt → (need ≤ room) × (rest ≡ Ok tt)
room-passed need room rest e =
    let h = ask-fine (leb need room) Length rest e in
    (leb-true _ _ h.0, h.1)

pub up-passed : (b : List ℕ) (room : ℕ) → up_check b room ≡ Ok tt → (length b + 4 ≤ room) × (move_check 1 b ≡ Ok tt)
unfolding up_check
up-passed b room e = room-passed (length b + 4) room (move_check 1 b) e

pub down-passed : (b : List ℕ) (room : ℕ) → down_check b room ≡ Ok tt → (length b - 4 ≤ room) × (move_check 2 b ≡ Ok tt)
unfolding down_check
down-passed b room e = room-passed (length b - 4) room (move_check 2 b) e

-- the bytes that a call reads are there
pub up_fits : (b : List ℕ) (room : ℕ) → up_check b room ≡ Ok tt → (5 ≤ length b) × (length b + 4 ≤ room)
up_fits b room e =
    let h = up-passed b room e in
    (omega (arith, sheet-length 1 b (movable 1 b h.1)), h.0)

pub down_fits : (b : List ℕ) (room : ℕ) → down_check b room ≡ Ok tt → (9 ≤ length b) × (length b - 4 ≤ room)
down_fits b room e =
    let h = down-passed b room e in
    (omega (arith, sheet-length 2 b (movable 2 b h.1)), h.0)

-- ---- a sheet is short enough for its length field, in either version

two-bytes-most : (b : List ℕ) (at : ℕ) → Bytes b → two_bytes b at ≤ 65535
unfolding big_endian
two-bytes-most b at B = omega (arith, B (at + 0), B (at + 1))

front-most : (v : ℕ) → body_at v ≤ 9
front-most v = go (eqb v 2) where
  go : (t : Bool) → cond t 9 5 ≤ 9
  go true = omega arith
  go false = omega arith

pub short : (v : ℕ) (b : List ℕ) → Bytes b → Movable v b → length b < 2 ^ 32 - 8
short v b B m =
    let d = body_of b in
    let n = two-bytes-most d 0 (λ i. rw (get_or-drop (body_at (version_of b)) b i 0) (B _)) in
    let w : 12 + 8 * p_of d ≤ 524 = omega (arith, m.size.columns) in
    let r = mul-le-mul n w in
    omega (arith, m.laid, sheet-length v b m, front-most v)
