use mathlib.Core.Path.{◌≡◌, refl, ap, ◌∙◌}
use mathlib.Core.List.{List}
use Prim.Native.Nat.{ℕ, ◌+◌}
use native.Mathlib.Omega.{arith}
use lib.ListN.{length, get_or, set, length-set}
use Rattle.arrays.specs.Part.{put, tab}
use Rattle.arrays.proofs.Part.{put-tab-none, put-tab-more, tab-all}
use Rattle.big_endian.proofs.write_bytes.Goals as goal

one_more : (b s₀ : List ℕ) (at j : ℕ) {s : List ℕ} → s ≡ put s₀ at (tab (λ i. get_or b i 0) j)
    → set s (at + j) (get_or b j 0) ≡ put s₀ at (tab (λ i. get_or b i 0) (j + 1))
one_more b s₀ at j e = rw e (put-tab-more s₀ at (λ i. get_or b i 0) j)

pub loop-j-init : goal.loop-j-init
loop-j-init c = (omega arith, refl, put-tab-none _ _ _)

pub loop-j-preserved : goal.loop-j-preserved
loop-j-preserved c = (omega arith, simp length-set c.loop-j.invariant.1, one_more c.args.b.now _ _ c.loop-j.j c.loop-j.invariant.2)

pub returns : goal.returns
returns c =
    let e : c.loop-j.j ≡ length c.args.b.now = omega arith in
    rw e at c.loop-j.invariant.2 ∙ ap (put _ _) (tab-all c.args.b.now _ 0 refl)
