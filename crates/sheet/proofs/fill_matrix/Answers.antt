use mathlib.Core.Path.{◌≡◌, refl, sym, ◌∙◌}
use mathlib.Core.Bool.{Bool, true, false, cond}
use mathlib.Core.List.{List}
use Prim.Native.Nat.{ℕ, ◌+◌, ◌*◌, ◌<◌}
use native.Mathlib.Nat.{zero-add}
use native.Mathlib.Omega.{arith}
use lib.ListN.{get_or}
use lib.Ieee.{Float}
use Rattle.arrays.specs.Part.{put, tab}
use Rattle.arrays.proofs.Part.{put_all}
use Rattle.matrices.specs.Grid.{grid}
use Rattle.matrices.proofs.Grid.{length-grid, put-grid-none, put-grid-more}
use Rattle.matrices.proofs.Lengths.{row_room}
use Rattle.sheet.specs.Rows.{feature_of, cancelled, remaining, matrix_of}
use Rattle.sheet.proofs.Remaining.{place, none, place-next, place-most, room_for, stands-there}
use Rattle.sheet.proofs.fill_matrix.Invariants.{entry}
use Rattle.sheet.proofs.fill_matrix.Goals as goal

row_more : (b : List ℕ) (p n i : ℕ) (x₀ : List Float) {x x' : List Float} {k : ℕ} (t : Bool) → cancelled b p i ≡ t → i < n → k ≡ place b p i
    → x ≡ put x₀ 0 (grid (entry b p n) k p) → x' ≡ cond (cancelled b p i) x (put x (k * p) (tab (feature_of b p i) p))
    → x' ≡ put x₀ 0 (grid (entry b p n) (cond (cancelled b p i) k (k + 1)) p)
row_more b p n i x₀ true e h ek ex f = rw e (rw e at f ∙ ex)
row_more b p n i x₀ {k = k} false e h ek ex f =
    let here : get_or (remaining b p n) k 0 ≡ i = rw ek (stands-there b p i n h e) in
    rw e (rw e at f ∙ rw (ex, ← here) (rw (zero-add (k * p)) at (put-grid-more x₀ 0 (entry b p n) k p)))

pub loop-i-init : goal.loop-i-init
loop-i-init c = (omega arith, omega arith, none _ _, put-grid-none _ _ _ _)

pub fill_row-k-requires : goal.fill_row-k-requires
fill_row-k-requires c =
    let g = c.args in
    let i = c.loop-i.i in
    let h = c.loop-i-test.true in record {
      p_in_bounds = omega (arith, row_room i g.n (12 + 8 * g.p) h);
      k_le_i = omega (arith, place-most g.b.now g.p i);
      p_in_bounds_2 = λ e. let k : c.loop-i.k < place g.b.now g.p g.n = rw c.loop-i.invariant.2 (room_for g.b.now g.p i g.n h e) in
          omega (arith, row_room c.loop-i.k (place g.b.now g.p g.n) g.p k);
    }

pub loop-i-preserved : goal.loop-i-preserved
loop-i-preserved c =
    let g = c.args in
    let v = c.loop-i.invariant in (
      omega arith,
      omega arith,
      c.fill_row-k.ensures.value ∙ rw v.2 (sym (place-next g.b.now g.p c.loop-i.i _ refl)),
      rw c.fill_row-k.ensures.value (row_more g.b.now g.p g.n c.loop-i.i g.x.now _ refl c.loop-i-test.true v.2 v.3 c.fill_row-k.ensures.x_after),
    )

pub returns : goal.returns
unfolding matrix_of
returns c =
    let g = c.args in
    let e : c.loop-i.i ≡ g.n = omega arith in
    let k : c.loop-i.k ≡ place g.b.now g.p g.n = rw e at c.loop-i.invariant.2 in
    rw k at c.loop-i.invariant.3 ∙ put_all _ _ (length-grid _ _ _ ∙ sym c.requires.x_len)
