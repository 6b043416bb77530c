use mathlib.Core.Path.{◌≡◌, ap, ◌∙◌}
use Prim.Native.Nat.{ℕ, ◌+◌, ◌*◌}
use native.Mathlib.Nat.{one-mul}
use native.Mathlib.Omega.{arith}
use Rattle.arrays.specs.Part.{put}
use Rattle.arrays.specs.Sums.{◌!◌}
use Rattle.several.proofs.Added.{added_none, added-one}
use Rattle.matrices.proofs.Lengths.{rows-room}
use Rattle.gram_panels.proofs.Sums.{sums-more}
use Rattle.gram_panels.proofs.entry_row.Goals as goal

pub loop-i-init : goal.loop-i-init
loop-i-init c = added_none _ _ _ _ _ _ _ c.requires.room

pub add_four-requires : goal.add_four-requires
add_four-requires c =
    let d = c.args.pair in
    let h = rows-room (4 * c.loop-i.i) 4 d.nr d.cc (omega arith) in
    record { by_in_bounds = omega arith; four = record { room = omega arith; last = omega arith; clear = λ k l u v. absurd (omega (arith, rows-room k 1 4 d.cc (omega arith), one-mul d.cc)) } }

pub loop-i-preserved : goal.loop-i-preserved
loop-i-preserved c =
    let e : 4 * c.loop-i.i + 4 ≡ 4 * (c.loop-i.i + 1) = omega arith in
    rw e at (sums-more c.requires (4 * c.loop-i.i) 4 (omega arith) c.loop-i.invariant _ c.add_four.ensures)

pub loop-i-2-preserved : goal.loop-i-2-preserved
loop-i-2-preserved c =
    sums-more c.requires c.loop-i-2.i 1 (omega arith) c.loop-i-2.invariant _
    (c.add_scaled.ensures ∙ ap (put _ _) (added-one _ _ _ _ _ _ _ _ (ap (λ (a : ℕ). c.loop-i-2.s ! a) (omega arith))))
