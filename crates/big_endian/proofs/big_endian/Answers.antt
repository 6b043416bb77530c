use mathlib.Core.Path.{◌≡◌, refl, ◌∙◌}
use mathlib.Core.List.{List}
use Prim.Native.Nat.{ℕ, ◌+◌, ◌-◌, ◌*◌, ◌^◌, ◌≤◌, ◌<◌}
use native.Mathlib.Nat.{pow-suc, pow-le-pow_right, lt_of_lt_of_le}
use native.Mathlib.Numerals.{add-one}
use native.Mathlib.Omega.{arith}
use lib.ListN.{get_or, take, drop}
use Rattle.arrays.proofs.Part.{get_or-part}
use Rattle.arrays.proofs.Ranges.{range-part, length_range}
use Rattle.big_endian.specs.Bytes.{big_endian}
use Rattle.big_endian.proofs.big_endian.Goals as goal

-- byte j of those that are lent
read : (b : List ℕ) (at k j : ℕ) {x : ℕ} → j < k → x ≡ get_or (take (at + k - at) (drop at b)) j 0 → x ≡ get_or b (at + j) 0
read b at k j h e = rw range-part at e ∙ get_or-part b at k j 0 h

more : (b : List ℕ) (at j v : ℕ) {x : ℕ} → x ≡ get_or b (at + j) 0 → v ≡ big_endian b at j → v * 256 + x ≡ big_endian b at (j + 1)
unfolding big_endian
more b at j v d e = rw (add-one j, d, e)

grown : (v d j : ℕ) → v < 256 ^ j → d < 256 → v * 256 + d < 256 ^ (j + 1)
grown v d j h l = rw (add-one j, pow-suc 256 j) (omega arith)

room : (v k : ℕ) → k ≤ 8 → v < 256 ^ k → v < 2 ^ 64
room v k h l = lt_of_lt_of_le l (pow-le-pow_right {n = 256} (omega arith) {i = k} {j = 8} h)

pub loop-byte-init : goal.loop-byte-init
unfolding big_endian
loop-byte-init c = (refl, omega arith)

pub overflow_mul-v : goal.overflow_mul-v
overflow_mul-v c =
    let j : c.loop-byte.byte-index < c.args.k = omega (arith, length_range c.args.b.now c.args.at c.args.k c.requires.k_in_bounds) in
    let r = room (c.loop-byte.v * 256 + 0) (c.loop-byte.byte-index + 1) (omega arith) (grown _ 0 _ c.loop-byte.invariant.1 (omega arith)) in
    omega arith

pub overflow_add-v : goal.overflow_add-v
overflow_add-v c =
    let j : c.loop-byte.byte-index < c.args.k = omega (arith, length_range c.args.b.now c.args.at c.args.k c.requires.k_in_bounds) in
    let e = read c.args.b.now c.args.at c.args.k c.loop-byte.byte-index j c.from.ensures in
    let byte : c.from.result < 256 = omega (arith, e, c.type_inv.b (c.args.at + c.loop-byte.byte-index)) in
    let r = room _ (c.loop-byte.byte-index + 1) (omega arith) (grown _ _ _ c.loop-byte.invariant.1 byte) in
    omega (arith, r)

pub loop-byte-preserved : goal.loop-byte-preserved
loop-byte-preserved c =
    let j : c.loop-byte.byte-index < c.args.k = omega (arith, length_range c.args.b.now c.args.at c.args.k c.requires.k_in_bounds) in
    let e = read c.args.b.now c.args.at c.args.k c.loop-byte.byte-index j c.from.ensures in
    let byte : c.from.result < 256 = omega (arith, e, c.type_inv.b (c.args.at + c.loop-byte.byte-index)) in
    (more c.args.b.now c.args.at c.loop-byte.byte-index c.loop-byte.v e c.loop-byte.invariant.0, grown _ _ _ c.loop-byte.invariant.1 byte)

pub returns : goal.returns
returns c =
    let e : c.loop-byte.byte-index ≡ c.args.k = omega (arith, length_range c.args.b.now c.args.at c.args.k c.requires.k_in_bounds) in
    (rw e at c.loop-byte.invariant.0, rw e at c.loop-byte.invariant.1)
