-- `sheet_front::write_front` meets its contract: the version's byte, and each number right behind what is written. Assumes nothing.
use mathlib.Core.Path.{◌≡◌, ap, ◌∙◌}
use mathlib.Core.List.{List, [], ◌∷◌}
use Prim.Native.Nat.{ℕ, ◌+◌, ◌≤◌}
use native.Mathlib.Omega.{arith}
use lib.ListN.{length, set, length-set}
use Rattle.arrays.specs.Part.{put}
use Rattle.arrays.proofs.Part.{put-append}
use Rattle.big_endian.specs.Bytes.{bytes_of}
use Rattle.big_endian.proofs.Bytes.{length-bytes}
use Rattle.sheet_front.specs.declared.Version.TheVariants.{One, Two}
use Rattle.sheet_front.specs.Front.{front_of}
use Rattle.sheet_front.proofs.write_front.Goals as goal

one_written : (s : List ℕ) (k : ℕ) → put (set s 0 1) 1 (bytes_of 4 k) ≡ put s 0 (front_of One k)
unfolding put
one_written s k = put-append s 0 (1 ∷ []) (bytes_of 4 k)

two-written : (s : List ℕ) (k family : ℕ) → put (put (set s 0 2) 1 (bytes_of 4 (k + 4))) 5 (bytes_of 4 family) ≡ put s 0 (front_of (Two family) k)
unfolding put
two-written s k family =
    let long : 5 ≡ 0 + length (2 ∷ bytes_of 4 (k + 4)) = simp length-bytes in
    ap (λ (l : List ℕ). put l 5 (bytes_of 4 family)) (put-append s 0 (2 ∷ []) (bytes_of 4 (k + 4)))
    ∙ ap (λ (at : ℕ). put (put s 0 (2 ∷ bytes_of 4 (k + 4))) at (bytes_of 4 family)) long
    ∙ put-append s 0 (2 ∷ bytes_of 4 (k + 4)) (bytes_of 4 family)

pub bounds-out-0 : goal.bounds-out-0
bounds-out-0 c =
    let room-one : 5 ≤ length c.args.out.now = rw c.in-One.is at c.requires.v_in_bounds in
    omega (arith, room-one)

pub write_number-requires : goal.write_number-requires
write_number-requires c =
    let room-one : 5 ≤ length c.args.out.now = rw c.in-One.is at c.requires.v_in_bounds in
    simp length-set room-one

pub bounds-out-0-in-Two : goal.bounds-out-0-in-Two
bounds-out-0-in-Two c =
    let room-two : 9 ≤ length c.args.out.now = rw c.in-Two.is at c.requires.v_in_bounds in
    omega (arith, room-two)

pub write_number-requires-in-Two : goal.write_number-requires-in-Two
write_number-requires-in-Two c =
    let room-two : 9 ≤ length c.args.out.now = rw c.in-Two.is at c.requires.v_in_bounds in
    simp length-set (omega (arith, room-two))

pub write_number-requires-in-Two-2 : goal.write_number-requires-in-Two-2
write_number-requires-in-Two-2 c =
    let room-two : 9 ≤ length c.args.out.now = rw c.in-Two.is at c.requires.v_in_bounds in
    omega (arith, room-two, length-set c.args.out.now 0 2)

pub shape_of-out-in-One : goal.shape_of-out-in-One
shape_of-out-in-One c = omega (arith, length-set c.args.out.now 0 1)

pub returns-in-One : goal.returns-in-One
returns-in-One c = c.write_number.ensures ∙ rw c.in-One.is (one_written _ _)

pub shape_of-out-in-Two : goal.shape_of-out-in-Two
shape_of-out-in-Two c = omega (arith, length-set c.args.out.now 0 2)

pub returns-in-Two : goal.returns-in-Two
returns-in-Two c = c.write_number-in-Two-2.ensures ∙ rw (c.write_number-in-Two.ensures, c.in-Two.is) (two-written _ _ _)
