-- Writes in a row joined: two halves are one write, and what the later of them read is as it was or as the first wrote it. Assumes nothing.
use mathlib.Core.Path.{◌≡◌, sym, ◌∙◌}
use mathlib.Core.List.{List, ◌++◌}
use Prim.Native.Nat.{ℕ, ◌+◌, ◌*◌}
use native.Mathlib.Omega.{arith}
use lib.ListN.{length}
use lib.Ieee.{Float, nan}
use Rattle.arrays.specs.Part.{part, put, tab}
use Rattle.arrays.proofs.Part.{put-append, tab-ext, length-tab, get_or-part, part-put-above, part-put-same, part-put-apart, apart_of}
use Rattle.arrays.specs.Sums.{◌!◌}
use Rattle.arrays.proofs.Folds.{fold-ext}
use Rattle.matrices.specs.Products.{rows_of}
use Rattle.matrices.proofs.Lengths.{length-rows}
use Rattle.layout.specs.declared.Places.{Places}
use Rattle.inner_solver.specs.Inner.{low_solved, high_solved, solved_of, low_times, high_times, times_of, Reads, Solves, Times}

put-halves : (s : List Float) (a p : ℕ) (f : ℕ → Float) (ys : List Float) → put (put s a (tab f p)) (a + p) ys ≡ put s a (tab f p ++ ys)
put-halves s a p f ys = rw (length-tab f p) at (put-append s a (tab f p) ys)

-- the rows of a square read p elements of a vector
pub rows-part : (m s : List Float) (p x : ℕ) → rows_of m p p (part s x p) ≡ rows_of m p p (part s x (2 * p))
unfolding rows_of
rows-part m s p x =
    tab-ext _ _ p
    (λ i l. fold-ext _ _ _ _ p (λ j k.
    let e : part s x p ! j ≡ part s x (2 * p) ! j = get_or-part s x p j nan k ∙ sym (get_or-part s x (2 * p) j nan (omega arith)) in
    rw e))

pub solved-joined : {m m₁ m₂ : List Float} {p : ℕ} {l : Places} {b out : ℕ} → Solves m p l b out
    → m₁ ≡ put m out (tab (low_solved p (part m l.d1 p) (part m l.d2 p) (part m l.prs p) (part m b (2 * p))) p)
    → m₂ ≡ put m₁ (out + p) (tab (high_solved p (part m₁ l.d2 p) (part m₁ l.prb p) (part m₁ l.prs p) (part m₁ b (2 * p))) p)
    → m₂ ≡ put m out (solved_of p (part m l.d1 p) (part m l.d2 p) (part m l.prb p) (part m l.prs p) (part m b (2 * p)))
unfolding solved_of
solved-joined {m} {m₁} {p = p} {l = l} {b = b} {out = out} h e₁ e₂ =
    let low = tab (low_solved p (part m l.d1 p) (part m l.d2 p) (part m l.prs p) (part m b (2 * p))) p in
    let d2 : part m₁ l.d2 p ≡ part m l.d2 p = rw e₁ (part-put-above m out low l.d2 p (omega arith)) in
    let prb : part m₁ l.prb p ≡ part m l.prb p = rw e₁ (part-put-above m out low l.prb p (omega arith)) in
    let prs : part m₁ l.prs p ≡ part m l.prs p = rw e₁ (part-put-above m out low l.prs p (omega arith)) in
    let at_b : part m₁ b (2 * p) ≡ part m b (2 * p) = rw e₁ (part-put-above m out low b (2 * p) (omega arith)) in
    rw (e₂, d2, prb, prs, at_b, e₁) (put-halves m out p _ _)

-- what the two loops of `times` ask, at any memory of the same length
pub times-reads : {m m' : List Float} {p : ℕ} {l : Places} {x out : ℕ} → Times m p l x out → length m' ≡ length m
    → Reads m' p l.d1 l.d2 l.atax x out
times-reads h e =
    record {
      first = omega arith;
      second = omega arith;
      third = omega arith;
      vector = omega arith;
      room = omega arith;
      off-first = omega arith;
      off-second = omega arith;
      off-third = omega arith;
      off-vector = h.off-vector;
    }

pub times-joined : {m m₁ m₂ m₃ : List Float} {p : ℕ} {l : Places} {x out : ℕ} → Times m p l x out
    → m₁ ≡ put m l.atax (rows_of (part m l.gram (p * p)) p p (part m x p))
    → m₂ ≡ put m₁ out (tab (low_times p (part m₁ l.atax p) (part m₁ l.d1 p) (part m₁ l.d2 p) (part m₁ x (2 * p))) p)
    → m₃ ≡ put m₂ (out + p) (tab (high_times p (part m₂ l.d1 p) (part m₂ l.d2 p) (part m₂ x (2 * p))) p)
    → m₃ ≡ put (put m l.atax (rows_of (part m l.gram (p * p)) p p (part m x p))) out
    (times_of p (part m l.gram (p * p)) (part m l.d1 p) (part m l.d2 p) (part m x (2 * p)))
unfolding times_of
times-joined {m} {m₁} {m₂} {p = p} {l = l} {x = x} {out = out} h e₁ e₂ e₃ =
    let rows = rows_of (part m l.gram (p * p)) p p (part m x p) in
    let low = tab (low_times p (part m₁ l.atax p) (part m₁ l.d1 p) (part m₁ l.d2 p) (part m₁ x (2 * p))) p in
    let atax : part m₁ l.atax p ≡ rows_of (part m l.gram (p * p)) p p (part m x (2 * p)) =
    rw e₁ (part-put-same m l.atax rows p (length-rows _ p p _) (omega arith)) ∙ rows-part (part m l.gram (p * p)) m p x in
    let d1₂ : part m₂ l.d1 p ≡ part m₁ l.d1 p = rw e₂ (part-put-above m₁ out low l.d1 p (omega arith)) in
    let d2₂ : part m₂ l.d2 p ≡ part m₁ l.d2 p = rw e₂ (part-put-above m₁ out low l.d2 p (omega arith)) in
    let x₂ : part m₂ x (2 * p) ≡ part m₁ x (2 * p) =
    rw e₂ (part-put-apart m₁ out low x (2 * p) (rw length-tab (apart_of out p x (2 * p) (λ k. omega (arith, h.off-vector k))))) in
    let d1₁ : part m₁ l.d1 p ≡ part m l.d1 p = rw e₁ (part-put-above m l.atax rows l.d1 p (omega arith)) in
    let d2₁ : part m₁ l.d2 p ≡ part m l.d2 p = rw e₁ (part-put-above m l.atax rows l.d2 p (omega arith)) in
    let x₁ : part m₁ x (2 * p) ≡ part m x (2 * p) = rw e₁ (part-put-above m l.atax rows x (2 * p) (omega arith)) in
    rw (e₃, d1₂, d2₂, x₂, e₂, atax, d1₁, d2₁, x₁, e₁) (put-halves _ out p _ _)
