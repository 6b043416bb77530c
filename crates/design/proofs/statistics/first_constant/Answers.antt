use Rattle.std.specs.Prelude.{None, Some}
use mathlib.Core.Path.{◌≡◌, refl, sym, ap, ◌∙◌}
use mathlib.Core.Bool.{true, false}
use mathlib.Core.List.{List}
use Prim.Native.Nat.{ℕ, suc, ◌+◌, ◌-◌, ◌≤◌, ◌<◌}
use native.Mathlib.Omega.{arith}
use lib.ListN.{length}
use lib.Ieee.{Float, nan}
use Rattle.arrays.specs.Part.{put, tab}
use Rattle.arrays.proofs.Part.{length-put, get_or-put-tab}
use Rattle.arrays.specs.Sums.{◌!◌}
use Rattle.design.specs.Statistics.{is_constant, constant_from}
use Rattle.design.proofs.statistics.first_constant.Goals as goal

-- the deviation of column j stands behind 64 words
read : (t₀ t xs : List Float) (f : ℕ → Float) (p j : ℕ) → t ≡ put (put t₀ 0 xs) 64 (tab f p) → 64 + p ≤ length t₀ → j < p → t ! (64 + j) ≡ f j
read t₀ t xs f p j e room h = rw e (get_or-put-tab (put t₀ 0 xs) 64 f p j nan (rw length-put room) h)

module _ (m : List Float) (n p j : ℕ) where
  left : j < p → constant_from m n p (p - j) j ≡ constant_from m n p (suc (p - (j + 1))) j
  left h = ap (λ (k : ℕ). constant_from m n p k j) (omega arith)

  stops : j < p → is_constant m n p j ≡ true → constant_from m n p (p - j) j ≡ Some j
  unfolding constant_from
  stops h e = left h ∙ rw (e, constant_from)

  goes_on : j < p → is_constant m n p j ≡ false → constant_from m n p (p - j) j ≡ constant_from m n p (p - (j + 1)) (j + 1)
  unfolding constant_from
  goes_on h e = left h ∙ rw (e, constant_from)

  ends : p ≤ j → constant_from m n p (p - j) j ≡ None
  unfolding constant_from
  ends h =
      let e : p - j ≡ 0 = omega arith in
      rw e

pub slice_bounds-moments-end : goal.slice_bounds-moments-end
slice_bounds-moments-end c = refl

pub loop-j-init : goal.loop-j-init
loop-j-init c =
    let g = c.args in
    (omega arith, ap (λ (k : ℕ). constant_from g.m.now g.n g.p k 0) (omega arith))

pub returns-then-magnitude : goal.returns-then-magnitude
unfolding is_constant
returns-then-magnitude c =
    let g = c.args in
    let d = read _ _ _ _ g.p c.loop-j.j c.moments.ensures (omega arith) c.loop-j-test.true in
    let e : is_constant g.m.now g.n g.p c.loop-j.j ≡ true = rw (← d, ← c.magnitude.ensures) c.if-magnitude.true in
    sym (stops g.m.now g.n g.p c.loop-j.j (omega arith) e) ∙ c.loop-j.invariant.1

pub loop-j-preserved : goal.loop-j-preserved
unfolding is_constant
loop-j-preserved c =
    let g = c.args in
    let d = read _ _ _ _ g.p c.loop-j.j c.moments.ensures (omega arith) c.loop-j-test.true in
    let e : is_constant g.m.now g.n g.p c.loop-j.j ≡ false = rw (← d, ← c.magnitude.ensures) c.if-magnitude.false in
    (omega arith, sym (goes_on g.m.now g.n g.p c.loop-j.j (omega arith) e) ∙ c.loop-j.invariant.1)

pub returns : goal.returns
returns c =
    let g = c.args in
    sym (ends g.m.now g.n g.p c.loop-j.j (omega arith)) ∙ c.loop-j.invariant.1
