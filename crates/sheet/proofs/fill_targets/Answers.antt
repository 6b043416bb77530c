use mathlib.Core.Path.{◌≡◌, refl, sym, ◌∙◌}
use mathlib.Core.Bool.{Bool, true, false, cond}
use mathlib.Core.List.{List}
use Prim.Native.Nat.{ℕ, ◌+◌, ◌*◌, ◌<◌}
use native.Mathlib.Omega.{arith}
use lib.ListN.{get_or, set}
use lib.Ieee.{Float}
use Rattle.arrays.proofs.Turns.{made_none, array-more, array-all}
use Rattle.matrices.proofs.Lengths.{row_room}
use Rattle.sheet.specs.Rows.{score_of, cancelled, remaining, targets_of}
use Rattle.sheet.proofs.Remaining.{place, none, place-next, room_for, stands-there}
use Rattle.sheet.proofs.fill_targets.Invariants.{Written}
use Rattle.sheet.proofs.fill_targets.Goals as goal

score-more : (b : List ℕ) (p n i : ℕ) (y₀ : List Float) {y y' : List Float} {k : ℕ} (t : Bool) → cancelled b p i ≡ t → i < n → k ≡ place b p i
    → Written b p n y₀ y k → y' ≡ cond (cancelled b p i) y (set y k (score_of b p i)) → Written b p n y₀ y' (cond (cancelled b p i) k (k + 1))
score-more b p n i y₀ true e h ek m f =
    let q = rw e at f in
    rw (e, q) m
score-more b p n i y₀ {k = k} false e h ek m f =
    let q = rw e at f in
    let here : get_or (remaining b p n) k 0 ≡ i = rw ek (stands-there b p i n h e) in
    rw (e, q) (array-more m (score_of b p i) (rw ek (room_for b p i n h e)) (rw here))

pub loop-i-init : goal.loop-i-init
loop-i-init c = (omega arith, none _ _, made_none _ _ _ _)

pub fill_score-k-requires : goal.fill_score-k-requires
fill_score-k-requires c =
    let g = c.args in
    let i = c.loop-i.i in
    let h = c.loop-i-test.true in record {
      p_in_bounds = omega (arith, row_room i g.n (12 + 8 * g.p) h);
      k_in_bounds = λ e. let k : c.loop-i.k < place g.b.now g.p g.n = rw c.loop-i.invariant.1 (room_for g.b.now g.p i g.n h e) in
          omega (arith, c.loop-i.invariant.2.long, c.requires.y_len);
    }

pub loop-i-preserved : goal.loop-i-preserved
loop-i-preserved c =
    let g = c.args in
    let v = c.loop-i.invariant in (
      omega arith,
      c.fill_score-k.ensures.value ∙ rw v.1 (sym (place-next g.b.now g.p c.loop-i.i _ refl)),
      rw c.fill_score-k.ensures.value (score-more g.b.now g.p g.n c.loop-i.i g.y.now _ refl c.loop-i-test.true v.1 v.2 c.fill_score-k.ensures.y_after),
    )

pub shape_of-y : goal.shape_of-y
shape_of-y c = c.loop-i.invariant.2.long

pub returns : goal.returns
unfolding targets_of
returns c =
    let g = c.args in
    let e : c.loop-i.i ≡ g.n = omega arith in
    let k : c.loop-i.k ≡ place g.b.now g.p g.n = rw e at c.loop-i.invariant.1 in
    array-all c.loop-i.invariant.2 (omega arith) c.requires.y_len
