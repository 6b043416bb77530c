-- One turn of the loops that make each element of three vectors of p elements and of the two halves of one of 2p. Assumes nothing.
use mathlib.Core.Path.{◌≡◌, sym, ap, ◌∙◌}
use mathlib.Core.List.{List}
use Prim.Native.Nat.{ℕ, ◌+◌, ◌*◌, ◌≤◌, ◌<◌}
use native.Mathlib.Omega.{arith}
use lib.ListN.{get_or, set}
use lib.Ieee.{Float, nan}
use Rattle.arrays.specs.Part.{part}
use Rattle.arrays.proofs.Part.{get_or-part}
use Rattle.arrays.specs.Sums.{◌!◌}
use Rattle.arrays.proofs.Turns.{Made, made_more, part-kept}
use Rattle.inner_solver.specs.Inner.{Reads}

-- an element of a part that lies apart from what is written
kept_at : {s₀ : List Float} {out n : ℕ} {f : ℕ → Float} {s : List Float} {i : ℕ} → Made s₀ out n f s i
    → (b k j : ℕ) → j < k → (out < b + k → out + n ≤ b) → get_or s (b + j) nan ≡ part s₀ b k ! j
kept_at {s = s} m b k j l h = sym (get_or-part s b k j nan l) ∙ ap (λ (t : List Float). t ! j) (part-kept m b k h)

-- written from `at`, where either half of the room begins
pub reads_more : (g : Float → Float → Float → Float → Float → Float) {s₀ : List Float} {p a b c x out : ℕ} → Reads s₀ p a b c x out
    → (at : ℕ) → out ≤ at → at ≤ out + p → {s : List Float} {i : ℕ}
    → Made s₀ at p (λ k. g (part s₀ a p ! k) (part s₀ b p ! k) (part s₀ c p ! k) (part s₀ x (2 * p) ! k) (part s₀ x (2 * p) ! (k + p))) s i → i < p
    → Made s₀ at p (λ k. g (part s₀ a p ! k) (part s₀ b p ! k) (part s₀ c p ! k) (part s₀ x (2 * p) ! k) (part s₀ x (2 * p) ! (k + p)))
    (set s (at + i) (g (get_or s (a + i) nan) (get_or s (b + i) nan) (get_or s (c + i) nan) (get_or s (x + i) nan) (get_or s (x + (i + p)) nan))) (i + 1)
reads_more g {p = p} {a = a} {b = b} {c = c} {x = x} r at low high {i = i} m l =
    let ea = kept_at m a p i l (λ k. omega (arith, r.off-first (omega arith))) in
    let eb = kept_at m b p i l (λ k. omega (arith, r.off-second (omega arith))) in
    let ec = kept_at m c p i l (λ k. omega (arith, r.off-third (omega arith))) in
    let ex = kept_at m x (2 * p) i (omega arith) (λ k. omega (arith, r.off-vector (omega arith))) in
    let ey = kept_at m x (2 * p) (i + p) (omega arith) (λ k. omega (arith, r.off-vector (omega arith))) in
    made_more m _ l (rw (ea, eb, ec, ex, ey))
