use mathlib.Core.Path.{◌≡◌, sym}
use mathlib.Core.Bool.{Bool, true, false, not}
use mathlib.Core.List.{List}
use mir.Val.{bool_byte}
use Prim.Native.Nat.{ℕ, ◌+◌}
use native.Mathlib.Omega.{arith}
use Rattle.sheet.specs.Rows.{cancelled}
use Rattle.sheet.proofs.Remaining.{place, none, place-next, place-most}
use Rattle.sheet.proofs.count_remaining.Goals as goal

-- a row that remains counts
counted : (b : List ℕ) (p i left more : ℕ) (t : Bool) → cancelled b p i ≡ t → more ≡ bool_byte (not t) → left ≡ place b p i → left + more ≡ place b p (i + 1)
counted b p i left more true e q h =
    let k : place b p (i + 1) ≡ place b p i = place-next b p i true e in
    omega arith
counted b p i left more false e q h =
    let k : place b p (i + 1) ≡ place b p i + 1 = place-next b p i false e in
    omega arith

pub loop-i-init : goal.loop-i-init
loop-i-init c = (omega arith, none _ _)

pub overflow_add-left : goal.overflow_add-left
overflow_add-left c =
    let g = c.args in
    let e = counted g.b.now g.p c.loop-i.i _ _ c.is_cancelled.result (sym c.is_cancelled.ensures) c.from-left.ensures c.loop-i.invariant.1 in
    omega (arith, e, place-most g.b.now g.p (c.loop-i.i + 1))

pub loop-i-preserved : goal.loop-i-preserved
loop-i-preserved c =
    let g = c.args in
    (omega arith, counted g.b.now g.p c.loop-i.i _ _ c.is_cancelled.result (sym c.is_cancelled.ensures) c.from-left.ensures c.loop-i.invariant.1)

pub returns : goal.returns
returns c =
    let e : c.loop-i.i ≡ c.args.n = omega arith in
    rw e at c.loop-i.invariant.1
