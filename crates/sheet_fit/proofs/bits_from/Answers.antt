use mathlib.Core.Path.{◌≡◌, refl, sym, ◌∙◌}
use mathlib.Core.List.{List}
use Prim.Native.Nat.{ℕ, ◌+◌}
use native.Mathlib.Nat.{zero-add}
use native.Mathlib.Omega.{arith}
use lib.ListN.{set, length-set}
use Rattle.arrays.specs.Part.{put, tab}
use Rattle.arrays.proofs.Part.{length-tab, put_all, put-tab-none, put-tab-more}
use Rattle.sheet_fit.specs.SheetFit.{bits_of}
use Rattle.sheet_fit.proofs.bits_from.Goals as goal

one_more : (s out : List ℕ) (f : ℕ → ℕ) (j v : ℕ) → out ≡ put s 0 (tab f j) → v ≡ f j → set out j v ≡ put s 0 (tab f (j + 1))
one_more s out f j v e g = rw (e, g) (rw zero-add at (put-tab-more s 0 f j))

pub loop-j-init : goal.loop-j-init
loop-j-init c = (omega arith, refl, put-tab-none _ _ _)

pub loop-j-preserved : goal.loop-j-preserved
loop-j-preserved c =
    let i = c.loop-j.invariant in
    (omega arith, simp length-set i.1, one_more _ _ _ c.loop-j.j _ i.2 c.bits_of.ensures)

pub returns : goal.returns
unfolding bits_of
returns c =
    let e : c.loop-j.j ≡ c.args.p = omega arith in
    rw e at c.loop-j.invariant.2 ∙ put_all _ _ (length-tab _ _ ∙ sym c.requires.out_len)
