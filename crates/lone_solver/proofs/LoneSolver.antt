-- What the contract of the lone solver's `solve` says: which refusal for which input, that the outcome is one, and what is left of the lent memory.
-- Assumes nothing.
use Rattle.std.specs.Prelude.{Result, ⊤, Ok, Err}
use mathlib.Core.Path.{◌≡◌, refl, sym, ap, ◌∙◌}
use mathlib.Core.Logic.{◌⊎◌, inl, inr}
use mathlib.Core.Bool.{Bool, true, false}
use mathlib.Core.List.{List, ◌++◌}
use Prim.Native.Nat.{ℕ, ◌*◌, ◌<◌}
use native.Mathlib.Decide.{ℕ_discrete, dec_lt}
use native.Mathlib.Omega.{arith}
use lib.ListN.{length, take, drop}
use lib.Seq.{take_at, drop_at}
use lib.Ieee.{Float, le}
use Rattle.arrays.specs.Sums.{plus0}
use Rattle.arrays.specs.Vectors.{fill_of}
use Rattle.arrays.proofs.Lengths.{length-fill}
use Rattle.refusal.specs.declared.Refusal.{Refusal}
use Rattle.refusal.specs.declared.Refusal.TheVariants.{Size, Length, Setting, Scratch, NotFinite, Tolerance, NoRounds}
use Rattle.arrays.proofs.Scans.{FirstBad, AllFinite, scan-known}
use Rattle.lone_rounds.specs.Loop.{Result as Ended, Result.found, solved}
use Rattle.lone_solver.specs.Solve.{Outcome, Outcome.outcome, by_check, checked, finished, solve_of, Said.refused, said}
use Rattle.lone_solver.proofs.Checks.{InSize, Lengths, Settled, Passed, size-known, lengths-known, settings-known}
use Rattle.lone_solver.proofs.Checks.{bad-size, bad-length, bad-setting, bad-scratch, good-sizes, bad-value, bad-tolerance, bad-rounds, good-values}

-- the contract of `solve`, for all input: it answers r, and leaves x' and s'
abbrev pub Solves : ℕ → List Float → List Float → List Float → Float → ℕ → List Float → Result Float Refusal → List Float → List Float → Type 0
Solves n a b x tol limit s r x' s' = outcome r x' s' ≡ solve_of n a b x tol limit s

apart : {q : Refusal} {err : Float} → Err q ≡ Ok err → ⊥
apart h =
    let z : ◌≡◌ {A = ℕ} 0 1 = cc in
    omega arith

-- ---- the outcome is one

abbrev answer_in : Outcome → Result Float Refusal
answer_in (outcome r x s) = r

abbrev solution_in : Outcome → List Float
solution_in (outcome r x s) = x

abbrev scratch_in : Outcome → List Float
scratch_in (outcome r x s) = s

module _ (n : ℕ) (a b x : List Float) (tol : Float) (limit : ℕ) (s : List Float) where
  pub outcomes-coincide : {r q : Result Float Refusal} {x' x'' s' s'' : List Float} → Solves n a b x tol limit s r x' s' → Solves n a b x tol limit s q x'' s''
      → (r ≡ q) × (x' ≡ x'') × (s' ≡ s'')
  outcomes-coincide c d =
      let e = c ∙ sym d in
      (ap answer_in e, ap solution_in e, ap scratch_in e)

-- ---- the refusals, in 01's order

module _ (n : ℕ) (a b x : List Float) (tol : Float) (limit : ℕ) (s : List Float) where
  -- refusal k at place i is the first that holds
  pub data FirstRefusal : ℕ → ℕ → Type 0 where
    size : (InSize n → ⊥) → FirstRefusal 1 0
    lengths : InSize n → (Lengths n a b x → ⊥) → FirstRefusal 2 0
    setting : InSize n → Lengths n a b x → (Settled tol limit → ⊥) → FirstRefusal 3 0
    scratch : InSize n → Lengths n a b x → Settled tol limit → length s < 8 * n → FirstRefusal 4 0
    value : Passed n a b x tol limit (length s) → {i : ℕ} → FirstBad (a ++ b ++ x) i → FirstRefusal 5 i
    tolerance : Passed n a b x tol limit (length s) → AllFinite (a ++ b ++ x) → le tol plus0 ≡ true → FirstRefusal 8 0
    rounds : Passed n a b x tol limit (length s) → AllFinite (a ++ b ++ x) → le tol plus0 ≡ false → limit ≡ 0 → FirstRefusal 10 0

  -- none of them holds
  pub record Accepted : Type 0 where
    pub passed : Passed n a b x tol limit (length s)
    pub values : AllFinite (a ++ b ++ x)
    pub tolerance : le tol plus0 ≡ false
    pub rounds : limit ≡ 0 → ⊥

  -- every input is in one row of the table, or in none
  pub every-input : Accepted ⊎ ((k : ℕ) × (i : ℕ) × FirstRefusal k i)
  every-input = sizes (size-known n) where
    limits : Passed n a b x tol limit (length s) → AllFinite (a ++ b ++ x) → le tol plus0 ≡ false → Dec (limit ≡ 0)
        → Accepted ⊎ ((k : ℕ) × (i : ℕ) × FirstRefusal k i)
    limits p v t (yes z) = inr (10, 0, rounds p v t z)
    limits p v t (no z) = inl (record { passed = p; values = v; tolerance = t; rounds = z })

    tolerances : Passed n a b x tol limit (length s) → AllFinite (a ++ b ++ x) → (u : Bool) → le tol plus0 ≡ u
        → Accepted ⊎ ((k : ℕ) × (i : ℕ) × FirstRefusal k i)
    tolerances p v true t = inr (8, 0, tolerance p v t)
    tolerances p v false t = limits p v t (ℕ_discrete limit 0)

    finites : Passed n a b x tol limit (length s) → AllFinite (a ++ b ++ x) ⊎ ((i : ℕ) × FirstBad (a ++ b ++ x) i)
        → Accepted ⊎ ((k : ℕ) × (i : ℕ) × FirstRefusal k i)
    finites p (inl v) = tolerances p v (le tol plus0) refl
    finites p (inr f) = inr (5, f.0, value p f.1)

    rooms : InSize n → Lengths n a b x → Settled tol limit → Dec (length s < 8 * n) → Accepted ⊎ ((k : ℕ) × (i : ℕ) × FirstRefusal k i)
    rooms z l t (yes q) = inr (4, 0, scratch z l t q)
    rooms z l t (no q) = finites (record { sizes = z; lengths = l; settings = t; scratch = omega (arith, q) }) (scan-known (a ++ b ++ x))

    settings : InSize n → Lengths n a b x → Dec (Settled tol limit) → Accepted ⊎ ((k : ℕ) × (i : ℕ) × FirstRefusal k i)
    settings z l (yes t) = rooms z l t (dec_lt (length s) (8 * n))
    settings z l (no t) = inr (3, 0, setting z l t)

    longs : InSize n → Dec (Lengths n a b x) → Accepted ⊎ ((k : ℕ) × (i : ℕ) × FirstRefusal k i)
    longs z (yes l) = settings z l (settings-known tol limit)
    longs z (no l) = inr (2, 0, lengths z l)

    sizes : Dec (InSize n) → Accepted ⊎ ((k : ℕ) × (i : ℕ) × FirstRefusal k i)
    sizes (yes z) = longs z (lengths-known n a b x)
    sizes (no z) = inr (1, 0, size z)

  module _ {r : Result Float Refusal} {x' s' : List Float} (c : Solves n a b x tol limit s r x' s') where
    by-check : (k : Result ⊤ Refusal) → checked n a b x tol limit (length s) ≡ k → outcome r x' s' ≡ by_check k x s (finished n (solved n a b x tol limit) s)
    unfolding solve_of
    by-check k e = c ∙ ap (λ (k : Result ⊤ Refusal). by_check k x s (finished n (solved n a b x tol limit) s)) e

    bad-outcome : (q : Refusal) → checked n a b x tol limit (length s) ≡ Err q → (r ≡ Err q) × (x' ≡ x) × (s' ≡ s)
    bad-outcome q e =
        let f = by-check (Err q) e in
        (ap answer_in f, ap solution_in f, ap scratch_in f)

    fine-outcome : checked n a b x tol limit (length s) ≡ Ok tt
        → (err : Float) × (r ≡ Ok err) × (found err x' ≡ solved n a b x tol limit) × (s' ≡ fill_of plus0 (8 * n) ++ drop (8 * n) s)
    fine-outcome e = go (solved n a b x tol limit) refl where
      go : (o : Ended) → solved n a b x tol limit ≡ o
          → (err : Float) × (r ≡ Ok err) × (found err x' ≡ solved n a b x tol limit) × (s' ≡ fill_of plus0 (8 * n) ++ drop (8 * n) s)
      go (found err y) q =
          let f = rw q at (by-check (Ok tt) e) in
          (err, ap answer_in f, ap (found err) (ap solution_in f) ∙ sym q, ap scratch_in f)

    -- 01's number and place are those of the first refusal that holds
    pub first-refusal : {k i : ℕ} → FirstRefusal k i → said r ≡ refused k i
    first-refusal (size h) = ap said (bad-outcome Size (bad-size _ _ _ _ _ _ _ h)).0
    first-refusal (lengths z h) = ap said (bad-outcome Length (bad-length _ _ _ _ _ _ _ z h)).0
    first-refusal (setting z l h) = ap said (bad-outcome Setting (bad-setting _ _ _ _ _ _ _ z l h)).0
    first-refusal (scratch z l t h) = ap said (bad-outcome Scratch (bad-scratch _ _ _ _ _ _ _ z l t h)).0
    first-refusal (value p {i = i} f) = ap said (bad-outcome (NotFinite i) (good-sizes p ∙ bad-value a b x tol limit i f)).0
    first-refusal (tolerance p v t) = ap said (bad-outcome Tolerance (good-sizes p ∙ bad-tolerance a b x tol limit v t)).0
    first-refusal (rounds p v t z) = ap said (bad-outcome NoRounds (good-sizes p ∙ bad-rounds a b x tol limit v t z)).0

    -- where none holds, the error and the solution are those of solve_mut
    pub solved-otherwise : ((k i : ℕ) → FirstRefusal k i → ⊥) → (err : Float) × (r ≡ Ok err) × (found err x' ≡ solved n a b x tol limit)
    solved-otherwise none = go every-input where
      go : Accepted ⊎ ((k : ℕ) × (i : ℕ) × FirstRefusal k i) → (err : Float) × (r ≡ Ok err) × (found err x' ≡ solved n a b x tol limit)
      go (inl h) =
          let f = fine-outcome (good-sizes h.passed ∙ good-values a b x tol limit h.values h.tolerance h.rounds) in
          (f.0, f.1, f.2)
      go (inr w) = absurd (none w.0 w.1 w.2)

  -- ---- the lent memory

  pub refused-writes-nothing : {q : Refusal} {x' s' : List Float} → Solves n a b x tol limit s (Err q) x' s' → (x' ≡ x) × (s' ≡ s)
  refused-writes-nothing {q} {x'} {s'} c = go (checked n a b x tol limit (length s)) refl where
    go : (k : Result ⊤ Refusal) → checked n a b x tol limit (length s) ≡ k → (x' ≡ x) × (s' ≡ s)
    go (Ok tt) e = absurd (apart (fine-outcome c e).1)
    go (Err p) e =
        let f = bad-outcome c p e in
        (f.1, f.2)

  pub finished-scratch : {err : Float} {x' s' : List Float} → Solves n a b x tol limit s (Ok err) x' s'
      → (take (8 * n) s' ≡ fill_of plus0 (8 * n)) × (drop (8 * n) s' ≡ drop (8 * n) s)
  finished-scratch {err} {x'} {s'} c = go (checked n a b x tol limit (length s)) refl where
    go : (k : Result ⊤ Refusal) → checked n a b x tol limit (length s) ≡ k → (take (8 * n) s' ≡ fill_of plus0 (8 * n)) × (drop (8 * n) s' ≡ drop (8 * n) s)
    go (Err p) e = absurd (apart (sym (bad-outcome c p e).0))
    go (Ok tt) e =
        let l = length-fill plus0 (8 * n) in
        rw (fine-outcome c e).3 (take_at (fill_of plus0 (8 * n)) (drop (8 * n) s) (8 * n) l, drop_at (fill_of plus0 (8 * n)) (drop (8 * n) s) (8 * n) l)
