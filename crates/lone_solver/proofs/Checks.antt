-- The refusals in their order: each where its test is the first that fails. Assumes nothing.
use Rattle.refusal.specs.declared.Refusal.{Refusal}
use Rattle.std.specs.Prelude.{Option, Result, ⊤, Ok, Err}
use mathlib.Core.Path.{◌≡◌, sym, ◌∙◌}
use mathlib.Core.Bool.{Bool, true, false, not, ◌&&◌}
use mathlib.Core.List.{List, ◌++◌, append_assoc}
use Prim.Native.Nat.{ℕ, ◌+◌, ◌*◌, ◌≤◌, ◌<◌}
use native.Mathlib.Nat.{zero-add}
use lib.Dec.{leb, eqb}
use lib.ListN.{length}
use lib.Ieee.{Float, le}
use lib.Ieee.Scale.{finite}
use borrow.Author.Tests.{leb-true, eqb-true, le-leb, lt-leb, eq-eqb, ne_eqb}
use Rattle.arrays.specs.Sums.{plus0}
use Rattle.arrays.specs.Scan.{first_infinite}
use Rattle.refusal.specs.declared.Refusal.TheVariants.{Size, Length, Setting, Scratch, NotFinite, Tolerance, NoRounds}
use Rattle.refusal.specs.Checks.{ask, found_at}
use Rattle.arrays.proofs.Scans.{FirstBad, AllFinite, scan-first, scan-clean}
use Rattle.refusal.proofs.Asking.{then, values-last, values-more, refuted, known_by, both_true, ask-fine}
use Rattle.lone_solver.specs.Solve.{valued, checked}

-- ---- 1 to 4

pub record InSize (n : ℕ) : Type 0 where
  pub least : 1 ≤ n
  pub most : n ≤ 64

pub record Lengths (n : ℕ) (a b x : List Float) : Type 0 where
  pub matrix : length a ≡ n * n
  pub right : length b ≡ n
  pub start : length x ≡ n

pub record Settled (tol : Float) (limit : ℕ) : Type 0 where
  pub rounds : limit ≤ 5000
  pub tolerance : finite tol ≡ true

module _ (n : ℕ) where
  abbrev size-test : Bool
  size-test = leb 1 n && leb n 64

  size-good : InSize n → size-test ≡ true
  size-good z = rw (le-leb 1 n z.least, le-leb n 64 z.most)

  size_of : size-test ≡ true → InSize n
  size_of h =
      let t = both_true _ _ h in
      record { least = leb-true 1 n t.0; most = leb-true n 64 t.1 }

  module _ (a b x : List Float) where
    abbrev length-test : Bool
    length-test = eqb (length a) (n * n) && eqb (length b) n && eqb (length x) n

    length-good : Lengths n a b x → length-test ≡ true
    length-good l = rw (eq-eqb (length a) (n * n) l.matrix, eq-eqb (length b) n l.right, eq-eqb (length x) n l.start)

    length-of : length-test ≡ true → Lengths n a b x
    length-of h =
        let t = both_true _ _ h in
        let u = both_true _ _ t.0 in
        record { matrix = eqb-true _ _ u.0; right = eqb-true _ _ u.1; start = eqb-true _ _ t.1 }

module _ (tol : Float) (limit : ℕ) where
  abbrev setting-test : Bool
  setting-test = leb limit 5000 && finite tol

  setting-good : Settled tol limit → setting-test ≡ true
  setting-good t = rw (le-leb limit 5000 t.rounds, t.tolerance)

  setting-of : setting-test ≡ true → Settled tol limit
  setting-of h =
      let t = both_true _ _ h in
      record { rounds = leb-true limit 5000 t.0; tolerance = t.1 }

pub size-known : (n : ℕ) → Dec (InSize n)
size-known n = known_by (size_of n) (size-good n)

pub lengths-known : (n : ℕ) (a b x : List Float) → Dec (Lengths n a b x)
lengths-known n a b x = known_by (length-of n a b x) (length-good n a b x)

pub settings-known : (tol : Float) (limit : ℕ) → Dec (Settled tol limit)
settings-known tol limit = known_by (setting-of tol limit) (setting-good tol limit)

module _ (n : ℕ) (a b x : List Float) (tol : Float) (limit room : ℕ) where
  pub bad-size : (InSize n → ⊥) → checked n a b x tol limit room ≡ Err Size
  unfolding checked
  bad-size h = rw (refuted (size-test n) (λ p. h (size_of n p)))

  pub bad-length : InSize n → (Lengths n a b x → ⊥) → checked n a b x tol limit room ≡ Err Length
  unfolding checked
  bad-length z h = rw (size-good n z, refuted (length-test n a b x) (λ p. h (length-of n a b x p)))

  pub bad-setting : InSize n → Lengths n a b x → (Settled tol limit → ⊥) → checked n a b x tol limit room ≡ Err Setting
  unfolding checked
  bad-setting z l h = rw (size-good n z, length-good n a b x l, refuted (setting-test tol limit) (λ p. h (setting-of tol limit p)))

  pub bad-scratch : InSize n → Lengths n a b x → Settled tol limit → room < 8 * n → checked n a b x tol limit room ≡ Err Scratch
  unfolding checked
  bad-scratch z l t h = rw (size-good n z, length-good n a b x l, setting-good tol limit t, lt-leb (8 * n) room h)

-- none of 1 to 4
pub record Passed (n : ℕ) (a b x : List Float) (tol : Float) (limit room : ℕ) : Type 0 where
  pub sizes : InSize n
  pub lengths : Lengths n a b x
  pub settings : Settled tol limit
  pub scratch : 8 * n ≤ room

pub good-sizes : {n : ℕ} {a b x : List Float} {tol : Float} {limit room : ℕ} → Passed n a b x tol limit room
    → checked n a b x tol limit room ≡ valued a b x tol limit
unfolding checked
good-sizes {n} {a} {b} {x} {tol} {limit} {room} p =
    rw (size-good n p.sizes, length-good n a b x p.lengths, setting-good tol limit p.settings, le-leb (8 * n) room p.scratch)

pub passed : {n : ℕ} {a b x : List Float} {tol : Float} {limit room : ℕ} (k : Result ⊤ Refusal) → k ≡ checked n a b x tol limit room → k ≡ Ok tt
    → Passed n a b x tol limit room
unfolding checked
passed {n} {a} {b} {x} {tol} {limit} k e f =
    let h₁ = ask-fine _ _ _ (sym e ∙ f) in
    let h₂ = ask-fine _ _ _ h₁.1 in
    let h₃ = ask-fine _ _ _ h₂.1 in
    let h₄ = ask-fine _ _ _ h₃.1 in
    record { sizes = size_of n h₁.0; lengths = length-of n a b x h₂.0; settings = setting-of tol limit h₃.0; scratch = leb-true _ _ h₄.0 }

-- ---- 5, 8 and 10

-- by the scans of the three, one after the other
module _ (a b x : List Float) (tol : Float) (limit : ℕ) where
  abbrev pub last-two : Result ⊤ Refusal
  last-two = ask (not (le tol plus0)) Tolerance (ask (not (eqb limit 0)) NoRounds (Ok tt))

  pub by-scans : valued a b x tol limit
      ≡ then (found_at (first_infinite 0 a) 0) (then (found_at (first_infinite 0 b) (length a)) (then (found_at (first_infinite 0 x) (length a + length b)) last-two))
  unfolding valued
  by-scans =
      rw (append_assoc a b x, values-more 0 a last-two (b ++ x), zero-add (length a), values-more (length a) b last-two x, values-last (length a + length b) x last-two)

  -- no value that is not finite
  pub all-finite : (f g h : Option ℕ) (from further : ℕ) (u v w : ⊤) → f ≡ first_infinite 0 a → g ≡ first_infinite 0 b → h ≡ first_infinite 0 x
      → length a ≡ from → length a + length b ≡ further → found_at f 0 ≡ Ok u → found_at g from ≡ Ok v → found_at h further ≡ Ok w
      → valued a b x tol limit ≡ last-two
  all-finite f g h from further u v w ef eg eh l k cf cg ch = rw (by-scans, ← ef, ← eg, ← eh, cf, k, l, cg, ch)

-- by the elements of the three as one list
module _ (a b x : List Float) (tol : Float) (limit : ℕ) where
  pub bad-value : (i : ℕ) → FirstBad (a ++ b ++ x) i → valued a b x tol limit ≡ Err (NotFinite i)
  unfolding valued
  bad-value i h = rw (scan-first (a ++ b ++ x) i h)

  module _ (h : AllFinite (a ++ b ++ x)) where
    pub bad-tolerance : le tol plus0 ≡ true → valued a b x tol limit ≡ Err Tolerance
    unfolding valued
    bad-tolerance t = rw (scan-clean (a ++ b ++ x) h, t)

    pub bad-rounds : le tol plus0 ≡ false → limit ≡ 0 → valued a b x tol limit ≡ Err NoRounds
    unfolding valued
    bad-rounds t z = rw (scan-clean (a ++ b ++ x) h, t, z)

    pub good-values : le tol plus0 ≡ false → (limit ≡ 0 → ⊥) → valued a b x tol limit ≡ Ok tt
    unfolding valued
    good-values t z = rw (scan-clean (a ++ b ++ x) h, t, ne_eqb limit 0 z)
