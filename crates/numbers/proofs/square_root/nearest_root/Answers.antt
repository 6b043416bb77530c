use mathlib.Core.Path.{◌≡◌, sym, subst}
use Prim.Native.Nat.{◌+◌}
use native.Mathlib.Omega.{arith}
use Rattle.numbers.specs.declared.square_root.Digits.{Digits}
use Rattle.numbers.proofs.Recurrence.{Worked, start, step, nearest-of}
use Rattle.numbers.proofs.square_root.nearest_root.Goals as goal

pub loop-bit-init : goal.loop-bit-init
loop-bit-init c = start _ (omega arith)

pub next_bit-w-requires : goal.next_bit-w-requires
next_bit-w-requires c = c.loop-bit.invariant.room

pub loop-bit-preserved : goal.loop-bit-preserved
loop-bit-preserved c =
    let l = c.loop-bit in
    let m = c.args.m in
    subst (λ (v : Digits). Worked m v (l.bit + 1)) (sym c.next_bit-w.ensures) (step m l.w l.bit l.invariant (omega arith))

pub overflow_add-result : goal.overflow_add-result
overflow_add-result c = omega (arith, c.loop-bit.invariant.room.root)

pub returns : goal.returns
returns c =
    let l = c.loop-bit in
    let all : l.bit ≡ 54 = omega (arith, l.invariant.few) in
    nearest-of _ l.w (subst (Worked c.args.m l.w) all l.invariant) (omega arith) (omega arith)
