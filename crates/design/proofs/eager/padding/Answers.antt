use Prim.Native.Nat.{ℕ, zero, suc, ◌+◌, ◌*◌, ◌<◌}
use mathlib.Core.Path.{◌≡◌, sym, ap, ◌∙◌}
use mathlib.Core.List.{List, [], ◌∷◌}
use native.Mathlib.Nat.{add-zero, not-suc-le-zero, le_of_suc-le-suc}
use native.Mathlib.Decide.{ℕ_discrete}
use native.Mathlib.Omega.{arith}
use borrow.Author.Tests.{eq-eqb, ne_eqb}
use lib.ListN.{length, get_or, set, length-set}
use lib.Seq.{set-set, get_or-set_same, get_or-set_other, ext_get_or}
use lib.Ieee.{Float, nan}
use Rattle.arrays.specs.Part.{put, tab}
use Rattle.arrays.proofs.Part.{length-tab, get_or-tab, put-comm}
use Rattle.arrays.specs.Sums.{plus0}
use Rattle.arrays.specs.Vectors.{fill_of}
use Rattle.arrays.proofs.Lengths.{length-fill}
use Rattle.design.specs.Rows.{diagonal_at}
use Rattle.design.proofs.Grids.{Written, written_none, written-more, written_all}
use Rattle.design.proofs.eager.padding.Goals as goal

-- a list written, and then one of its elements set: the same as the list with that element set, written
put-set : (s : List Float) (a : ℕ) (xs : List Float) (r : ℕ) (x : Float) → r < length xs → set (put s a xs) (a + r) x ≡ put s a (set xs r x)
unfolding put
put-set s a [] r x h = absurd (not-suc-le-zero h)
put-set s a (y ∷ ys) zero x h =
    rw add-zero (sym (put-comm (set s a y) a (x ∷ []) (suc a) ys (omega arith)) ∙ ap (λ (l : List Float). put l (suc a) ys) (set-set s a y x))
put-set s a (y ∷ ys) (suc r) x h =
    let e : a + suc r ≡ suc a + r = omega arith in
    rw e (put-set (set s a y) (suc a) ys r x (le_of_suc-le-suc h))

diagonal : (x : Float) (r p : ℕ) → r < p → set (fill_of plus0 p) r x ≡ tab (diagonal_at x r) p
unfolding fill_of
diagonal x r p h =
    ext_get_or nan _ _ (length-set zeros r x ∙ length-tab _ p ∙ sym (length-tab _ p)) (λ j l. entry j (rw (length-set, length-tab) at l) (ℕ_discrete j r))
  where
    zeros : List Float
    zeros = tab (λ i. plus0) p

    entry : (j : ℕ) → j < p → Dec (j ≡ r) → get_or (set zeros r x) j nan ≡ get_or (tab (diagonal_at x r) p) j nan
    entry j l (yes e) = rw (get_or-tab (diagonal_at x r) p j nan l, eq-eqb r j (sym e), e) (get_or-set_same zeros r x nan (rw length-tab h))
    entry j l (no n) =
        rw (get_or-tab (diagonal_at x r) p j nan l, ne_eqb r j (λ q. n (sym q))) (get_or-set_other zeros r j x nan n ∙ get_or-tab (λ i. plus0) p j nan l)

turn : {s₀ : List Float} {out p : ℕ} (x : Float) {s : List Float} {r : ℕ} → Written s₀ out p p (diagonal_at x) s r → r < p → (t : List Float)
    → t ≡ put s (out + r * p) (fill_of plus0 p) → Written s₀ out p p (diagonal_at x) (set t (out + r * p + r) x) (r + 1)
turn {out = out} {p} x {s} {r} w h t e =
    written-more w _ h
    (rw e (put-set s (out + r * p) (fill_of plus0 p) r x (rw length-fill h)) ∙ ap (put s (out + r * p)) (diagonal x r p h))

pub loop-r-init : goal.loop-r-init
loop-r-init c = written_none _ _ _ _ _

pub loop-r-preserved : goal.loop-r-preserved
loop-r-preserved c = turn c.args.x c.loop-r.invariant c.loop-r-test.true _ c.fill.ensures

pub returns : goal.returns
returns c = written_all c.loop-r.invariant (omega arith)
