-- A sheet moved to the other version: its body stays, it moves and is read as before, and a move back gives the old bytes. Assumes nothing.
use Rattle.refusal.specs.declared.Refusal.{Refusal}
use Rattle.std.specs.Prelude.{Result, ⊤, Ok, Err}
use mathlib.Core.Path.{◌≡◌, refl, sym, ap, ◌∙◌}
use mathlib.Core.List.{List}
use Prim.Native.Nat.{ℕ, ◌+◌, ◌-◌, ◌^◌, ◌≤◌, ◌<◌}
use native.Mathlib.Nat.{le_of_eq}
use native.Mathlib.Omega.{arith}
use lib.Ieee.{Float}
use lib.ListN.{length, take, drop}
use borrow.Author.Tests.{le-leb}
use Rattle.arrays.specs.Part.{put}
use Rattle.big_endian.proofs.Bytes.{Bytes}
use Rattle.sheet_front.specs.declared.Version.{Version}
use Rattle.sheet_front.specs.declared.Version.TheVariants.{One, Two}
use Rattle.sheet_front.specs.Front.{family_of, body_of, sheet_with}
use Rattle.sheet_front.proofs.Front.{front-range, sheet-long, laid-there, body_back, version-number, version-back, rest_back, family-back, sheet-parts-1, sheet-parts-2}
use Rattle.sheet_header.specs.Header.{header_check}
use Rattle.sheet_header.proofs.Passed.{Accepted, accept-fine}
use Rattle.sheet.specs.Sheet.{rows_read, sheet_of}
use Rattle.sheet_move.specs.declared.Moved.{Moved}
use Rattle.sheet_move.specs.Move.{moved_with, up_of, down_of, move_check, up_check, down_check, Outcome.outcome, moved_by, up_move, down_move}
use Rattle.sheet_move.proofs.Passed.{movable, version-is, sheet-length, up-passed, down-passed, short}
use Rattle.sheet_move.proofs.Outcomes.{up-length, down-length}

-- ---- the body

pub move-keeps-body : (b : List ℕ) (family : ℕ) → (body_of (up_of family b) ≡ body_of b) × (body_of (down_of b) ≡ body_of b)
unfolding up_of down_of
move-keeps-body b family = (body_back (Two family) (body_of b), body_back One (body_of b))

-- ---- the old bytes

pub down-after-up : (b : List ℕ) (family : ℕ) → Bytes b → move_check 1 b ≡ Ok tt → down_of (up_of family b) ≡ b
unfolding down_of
down-after-up b family B e =
    let m = movable 1 b e in
    rw (move-keeps-body b family).0 (sheet-parts-1 b B m.accepted.begun (version-is 1 b m) m.accepted.rest)

pub up-after-down : (b : List ℕ) → Bytes b → move_check 2 b ≡ Ok tt → up_of (family_of b) (down_of b) ≡ b
unfolding up_of
up-after-down b B e =
    let m = movable 2 b e in
    rw (move-keeps-body b 0).1 (sheet-parts-2 b B (omega (arith, sheet-length 2 b m)) (version-is 2 b m) m.accepted.rest)

-- ---- a moved sheet moves

-- a body that moves does so behind each front
fronted : (v : ℕ) (b : List ℕ) → Bytes b → move_check v b ≡ Ok tt → (w : Version) → move_check (version-number w) (sheet_with w (body_of b)) ≡ Ok tt
unfolding move_check
fronted v b B e w =
    let m = movable v b e in
    let d = body_of b in
    let a : Accepted (version-number w) (version-number w) (sheet_with w d) = record {
      begun = omega (arith, (front-range w).0, sheet-long w d);
      least = le_of_eq (sym (version-back w d));
      most = le_of_eq (version-back w d);
      rest = rest_back w d (omega (arith, short v b B m, sheet-length v b m));
      body = rw (body_back w d) m.accepted.body;
    } in
    rw (accept-fine _ _ _ a, body_back w d) m.body

up-moves : (b : List ℕ) (family : ℕ) → Bytes b → move_check 1 b ≡ Ok tt → move_check 2 (up_of family b) ≡ Ok tt
unfolding up_of
up-moves b family B e = fronted 1 b B e (Two family)

down-moves : (b : List ℕ) → Bytes b → move_check 2 b ≡ Ok tt → move_check 1 (down_of b) ≡ Ok tt
unfolding down_of
down-moves b B e = fronted 2 b B e One

up-family : (b : List ℕ) (family : ℕ) → family < 2 ^ 32 → family_of (up_of family b) ≡ family
unfolding up_of
up-family b family h = family-back family (body_of b) h

-- ---- one call after the other

moved : (c : Result ⊤ Refusal) (sheet : List ℕ) (family : ℕ) (out : List ℕ) {k g : ℕ} {out' : List ℕ} → outcome (Ok (moved_with k g)) out' ≡ moved_by c sheet family out
    → (c ≡ Ok tt) × (k ≡ length sheet) × (g ≡ family) × (out' ≡ put out 0 sheet)
moved (Ok tt) sheet family out {k = k} {g = g} e =
    let q : moved_with k g ≡ moved_with (length sheet) family = cc in
    (refl, ap (λ (m : Moved). m.bytes) q, ap (λ (m : Moved). m.family) q, cc)
moved (Err r) sheet family out e =
    let z : ◌≡◌ {A = ℕ} 0 1 = cc in
    absurd (omega arith)

-- where nothing refuses it, a sheet is moved
pub up_done : (b : List ℕ) (family : ℕ) (out : List ℕ) → length b + 4 ≤ length out → move_check 1 b ≡ Ok tt
    → up_move b family out ≡ outcome (Ok (moved_with (length (up_of family b)) family)) (put out 0 (up_of family b))
unfolding up_move up_check
up_done b family out h e = rw (le-leb (length b + 4) (length out) h, e)

pub down-done : (b out : List ℕ) → length b - 4 ≤ length out → move_check 2 b ≡ Ok tt
    → down_move b out ≡ outcome (Ok (moved_with (length (down_of b)) (family_of b))) (put out 0 (down_of b))
unfolding down_move down_check
down-done b out h e = rw (le-leb (length b - 4) (length out) h, e)

-- a moved sheet stands at the output's front, and what is behind it stays
pub up-front : (b : List ℕ) (family : ℕ) (out : List ℕ) {k g : ℕ} {out' : List ℕ} → outcome (Ok (moved_with k g)) out' ≡ up_move b family out
    → (move_check 1 b ≡ Ok tt) × (take k out' ≡ up_of family b) × (drop k out' ≡ drop k out)
unfolding up_move
up-front b family out e =
    let d = moved (up_check b (length out)) (up_of family b) family out e in
    let p = up-passed b (length out) d.0 in
    let there = laid-there (up_of family b) out (omega (arith, up-length b (movable 1 b p.1) family, p.0)) in
    (p.1, rw (d.1, d.3) there.0, rw (d.1, d.3) there.1)

pub down-front : (b out : List ℕ) {k g : ℕ} {out' : List ℕ} → outcome (Ok (moved_with k g)) out' ≡ down_move b out
    → (move_check 2 b ≡ Ok tt) × (take k out' ≡ down_of b) × (drop k out' ≡ drop k out) × (g ≡ family_of b)
unfolding down_move
down-front b out e =
    let d = moved (down_check b (length out)) (down_of b) (family_of b) out e in
    let p = down-passed b (length out) d.0 in
    let there = laid-there (down_of b) out (omega (arith, down-length b (movable 2 b p.1), p.0)) in
    (p.1, rw (d.1, d.3) there.0, rw (d.1, d.3) there.1, d.2)

module _ (b : List ℕ) (B : Bytes b) {k g : ℕ} (out : List ℕ) {out' : List ℕ} (out₂ : List ℕ) (room : length b ≤ length out₂) where
  pub up-then-down : (family : ℕ) → family < 2 ^ 32 → outcome (Ok (moved_with k g)) out' ≡ up_move b family out
      → down_move (take k out') out₂ ≡ outcome (Ok (moved_with (length b) family)) (put out₂ 0 b)
  up-then-down family h e =
      let f = up-front b family out e in
      let l = up-length b (movable 1 b f.0) family in
      rw f.1 (down-done (up_of family b) out₂ (omega (arith, l)) (up-moves b family B f.0) ∙ rw (down-after-up b family B f.0, up-family b family h))

  pub down-then-up : outcome (Ok (moved_with k g)) out' ≡ down_move b out → up_move (take k out') g out₂ ≡ outcome (Ok (moved_with (length b) g)) (put out₂ 0 b)
  down-then-up e =
      let f = down-front b out e in
      let m = movable 2 b f.0 in
      let l = down-length b m in
      rw (f.1, f.3) (up_done (down_of b) (family_of b) out₂ (omega (arith, l, sheet-length 2 b m)) (down-moves b B f.0) ∙ rw (up-after-down b B f.0))

-- ---- a moved sheet is read as before

-- what a sheet that is accepted decodes to is by its body alone
body-decides : (b b' : List ℕ) → header_check b ≡ Ok tt → header_check b' ≡ Ok tt → body_of b ≡ body_of b'
    → (R C : ℕ) (x y : List Float) → sheet_of b R C x y ≡ sheet_of b' R C x y
unfolding sheet_of rows_read
body-decides b b' e e' d R C x y = rw (e, e', d)

reader-takes : (v : ℕ) (b : List ℕ) → (1 ≤ v) × (v ≤ 2) → move_check v b ≡ Ok tt → header_check b ≡ Ok tt
reader-takes v b h e =
    let a = (movable v b e).accepted in
    accept-fine 1 2 b (record { begun = a.begun; least = omega (arith, a.least); most = omega (arith, a.most); rest = a.rest; body = a.body })

-- a reader takes a sheet that moves, and the moved one
pub moved-headed : (b : List ℕ) (family : ℕ) → Bytes b
    → (move_check 1 b ≡ Ok tt → (header_check b ≡ Ok tt) × (header_check (up_of family b) ≡ Ok tt))
    × (move_check 2 b ≡ Ok tt → (header_check b ≡ Ok tt) × (header_check (down_of b) ≡ Ok tt))
moved-headed b family B = (
  λ e. (reader-takes 1 b (omega arith) e, reader-takes 2 (up_of family b) (omega arith) (up-moves b family B e)),
  λ e. (reader-takes 2 b (omega arith) e, reader-takes 1 (down_of b) (omega arith) (down-moves b B e)),
)

pub moved-reads-alike : (b : List ℕ) (family : ℕ) → Bytes b → (R C : ℕ) (x y : List Float)
    → (move_check 1 b ≡ Ok tt → sheet_of (up_of family b) R C x y ≡ sheet_of b R C x y)
    × (move_check 2 b ≡ Ok tt → sheet_of (down_of b) R C x y ≡ sheet_of b R C x y)
moved-reads-alike b family B R C x y = (up, down) where
  up : move_check 1 b ≡ Ok tt → sheet_of (up_of family b) R C x y ≡ sheet_of b R C x y
  up e =
      let h = (moved-headed b family B).0 e in
      body-decides (up_of family b) b h.1 h.0 (move-keeps-body b family).0 R C x y

  down : move_check 2 b ≡ Ok tt → sheet_of (down_of b) R C x y ≡ sheet_of b R C x y
  down e =
      let h = (moved-headed b family B).1 e in
      body-decides (down_of b) b h.1 h.0 (move-keeps-body b family).1 R C x y
