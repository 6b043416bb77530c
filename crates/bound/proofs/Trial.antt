-- An accepted trial has every weight finite and strictly within its finite bound, whatever the numbers before it were.
-- Of lambda and t it takes that they have no minus sign. Assumes nothing else.
use mathlib.Core.Path.{◌≡◌, sym, subst, ◌∙◌}
use mathlib.Core.Logic.{inl, inr}
use mathlib.Core.List.{List, [], ◌∷◌, foldl}
use mathlib.Core.Bool.{true}
use Prim.Native.Nat.{ℕ, zero, suc, ◌*◌, ◌<◌}
use native.Mathlib.Nat.{mul_comm, le_of_suc-le-suc, not-suc-le-zero}
use native.Mathlib.Omega.{arith}
use lib.Dec.{T}
use lib.ListN.{length}
use lib.Ieee.{Float, inf, binary64, neg, lt, of_bits}
use Rattle.numbers.specs.Kinds.{number, high, unsigned, under_or_nan, All, Some, pzero, nzero}
use Rattle.numbers.specs.Ops.{◌⊕◌, ◌⊖◌, ◌⊗◌, ◌⊘◌}
use Rattle.numbers.specs.Order.{maximum_of}
use Rattle.numbers.proofs.Absorb.{le-number-left, sub-number-left, sub-number-right, div-number-left, neg-number}
use Rattle.numbers.proofs.Absorb.{add-high-right, mul-high-right, div-high-left, high-less-high, neg-sub-high, apply-number, apply-high}
use Rattle.numbers.proofs.Sign.{sub-under, lt-zero, lt-neg, above-finite, between-finite, under-weaker, number-under}
use Rattle.numbers.proofs.Folds.{sum_number, sum-high, largest-under}
use Rattle.logarithm.specs.Log.{ln_of}
use Rattle.logarithm.proofs.Specials.{ln-nan, ln-infinity}
use Rattle.arrays.specs.Sums.{◌!◌, sum_of, plus0}
use Rattle.matrices.proofs.Grid.{length-grid}
use Rattle.line_search.specs.Search.{faces_of, faces_list, largest_of, sumlogneg_of, phi_of, alpha, decreases}
use Rattle.line_search.proofs.Lists.{largest-list, sumlogneg-list, sum-list, faces-list}
use Rattle.bound.specs.Guarded.{Inside}

-- ---- a weight and its bound
ln-high : (x : Float) → T (high x) → T (high (ln_of x))
ln-high x h = apply-high ln_of ln-nan (subst (λ (y : Float). T (high y)) (sym ln-infinity) tt) x h

-- an element of f below zero, whose logarithm is a number
below : (x y : Float) → T (under_or_nan (x ⊖ y)) → T (number (ln_of (neg (x ⊖ y)))) → T (lt x y)
below x y a n = sub-under binary64 x y (number-under (x ⊖ y) (neg-number (x ⊖ y) (apply-number ln_of ln-nan (neg (x ⊖ y)) n)) a)

within : (w u : Float) → T (lt w u) → T (lt (neg w) u) → (T (high u) → ⊥) → Inside w u
within w u h k n =
    let q = above-finite w u h n in
    record { weight-finite = between-finite w u q h k; bound-finite = q; over = lt-neg w u k; beneath = h }

-- ---- over lists
abbrev log_of : Float → Float
log_of v = ln_of (neg v)

-- where a bound is a NaN or +infinity, so is a logarithm
faces-high : (ws us : List Float) → length ws ≡ length us → Some high us → Some (λ (v : Float). high (log_of v)) (faces_list ws us)
faces-high ws [] l h = absurd h
faces-high [] (u ∷ us) l h = absurd (omega (arith, l))
faces-high (w ∷ ws) (u ∷ us) l (inl h) = inl (ln-high (neg (w ⊖ u)) (neg-sub-high binary64 w u h))
faces-high (w ∷ ws) (u ∷ us) l (inr h) = inr (inr (faces-high ws us (omega (arith, l)) h))

each : (ws us : List Float) → length ws ≡ length us → All under_or_nan (faces_list ws us) → All (λ (v : Float). number (log_of v)) (faces_list ws us)
    → (Some high us → ⊥) → (i : ℕ) → i < length ws → Inside (ws ! i) (us ! i)
each [] us l a n k i h = absurd (not-suc-le-zero h)
each (w ∷ ws) [] l a n k i h = absurd (omega (arith, l))
each (w ∷ ws) (u ∷ us) l a n k zero h = within w u (below w u a.0 n.0) (below (neg w) u a.1.0 n.1.0) (λ x. k (inl x))
each (w ∷ ws) (u ∷ us) l a n k (suc i) h = each ws us (omega (arith, l)) a.1.1 n.1.1 (λ x. k (inr x)) i (le_of_suc-le-suc h)

abbrev logs_of : List Float → Float
logs_of fs = foldl (λ (a v : Float). a ⊕ log_of v) pzero fs

abbrev total_of : List Float → Float
total_of us = foldl (λ (a v : Float). a ⊕ v) nzero us

of-lists : (lambda t zz : Float) (ws us : List Float) → length ws ≡ length us → T (unsigned lambda) → T (unsigned t)
    → T (lt (foldl (λ (a v : Float). maximum_of v a) (inf true) (faces_list ws us)) pzero)
    → T (number (zz ⊕ lambda ⊗ total_of us ⊖ logs_of (faces_list ws us) ⊘ t)) → (i : ℕ) → i < length ws → Inside (ws ! i) (us ! i)
of-lists lambda t zz ws us l L B b n =
    let fs = faces_list ws us in
    let logs = logs_of fs in
    let gain = zz ⊕ lambda ⊗ total_of us in
    let most = foldl (λ (a v : Float). maximum_of v a) (inf true) fs in
    let logs-number = div-number-left binary64 logs t (sub-number-right binary64 gain (logs ⊘ t) n) in
    each ws us l
    (largest-under (inf true) fs (under-weaker most (lt-zero most b))).1
    (sum_number binary64 log_of pzero fs logs-number).1
    (λ h.
    high-less-high binary64 gain (logs ⊘ t)
    (add-high-right binary64 zz (lambda ⊗ total_of us) (mul-high-right binary64 lambda (total_of us) L (sum-high binary64 (λ (v : Float). v) nzero us h)))
    (div-high-left binary64 logs t B (sum-high binary64 log_of pzero fs (faces-high ws us l h)))
    n)

-- ---- over the definitions of a trial
faces-long : (p : ℕ) (ws us : List Float) → length (faces_of p ws us) ≡ 2 * p
unfolding faces_of
faces-long p ws us = length-grid _ p 2 ∙ mul_comm p 2

phi_number : (newphi phi s gdx : Float) → decreases newphi phi s gdx ≡ true → T (number newphi)
unfolding decreases
phi_number newphi phi s gdx d =
    sub-number-left binary64 newphi phi (le-number-left (newphi ⊖ phi) (alpha ⊗ s ⊗ gdx) (subst T (sym d) tt))

pub accepted-inside : (p : ℕ) (lambda t zz phi s gdx : Float) (ws us : List Float) → length ws ≡ p → length us ≡ p → T (unsigned lambda) → T (unsigned t)
    → lt (largest_of (2 * p) (faces_of p ws us)) plus0 ≡ true
    → decreases (phi_of lambda t zz (sum_of p us) (sumlogneg_of (2 * p) (faces_of p ws us))) phi s gdx ≡ true → (i : ℕ) → i < p → Inside (ws ! i) (us ! i)
unfolding phi_of of_bits
accepted-inside p lambda t zz phi s gdx ws us ew eu L B b d i h =
    let fs = faces_of p ws us in
    let same = faces-list p ws us ew eu in
    let long = faces-long p ws us in
    let b-true : T (lt (largest_of (2 * p) fs) plus0) = subst T (sym b) tt in
    let n = phi_number (phi_of lambda t zz (sum_of p us) (sumlogneg_of (2 * p) fs)) phi s gdx d in
    of-lists lambda t zz ws us (ew ∙ sym eu) L B
    (rw (largest-list (2 * p) fs long, same) at b-true)
    (rw (sumlogneg-list (2 * p) fs long, same, sum-list p us eu) at n) i (rw ew h)
