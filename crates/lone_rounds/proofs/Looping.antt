-- The lone solver's rounds: one turn of the loop is one turn of its definition, and its two ends. Assumes nothing.
use mathlib.Core.Path.{◌≡◌, refl, sym, ap, ◌∙◌}
use mathlib.Core.Bool.{Bool, true, false}
use mathlib.Core.List.{List}
use Prim.Native.Nat.{ℕ, suc, ◌+◌, ◌-◌, ◌*◌, ◌≤◌, ◌<◌}
use native.Mathlib.Omega.{arith}
use lib.Dec.{eqb}
use lib.ListN.{length, drop}
use lib.Ieee.{Float, le}
use Rattle.arrays.specs.Part.{part}
use Rattle.arrays.specs.Sums.{plus0}
use Rattle.bg_solver.specs.declared.shared.Turned.{Turned}
use Rattle.bg_solver.specs.declared.shared.Turned.TheVariants.{Stop, More}
use Rattle.bg_solver.specs.Shared.{turn_by, error_in}
use Rattle.bg_solver.specs.Solver.{System, Work, turned, error_of}
use Rattle.lone_rounds.specs.Lone.{LoneHas, LoneStore, lone_store, work_in, diagonal_of, lone_system, LoneTurn}
use Rattle.lone_rounds.specs.Lone.{LoneSlot.X, LoneSlot.R, LoneSlot.RR, LoneSlot.Z, LoneSlot.ZZ, LoneSlot.P, LoneSlot.PP, LoneSlot.DIAG}
use Rattle.lone_rounds.specs.Loop.{Result.found, loop, Looped}
use Rattle.lone_rounds.proofs.Keeping.{read, rest-is}

-- ---- the definition

-- what an answer says of the error
module _ (tol err bkden e d : Float) where
  stopped : turn_by tol err bkden ≡ Stop e d → (le err tol ≡ true) × (err ≡ e)
  unfolding turn_by
  stopped t = go (le err tol) refl where
    go : (b : Bool) → le err tol ≡ b → (b ≡ true) × (err ≡ e)
    go true q =
        let h = rw q at t in
        (refl, cc)
    go false q =
        let h = rw q at t in
        let z : ◌≡◌ {A = ℕ} 0 1 = cc in
        absurd (omega arith)

  went_on : turn_by tol err bkden ≡ More e d → (le err tol ≡ false) × (err ≡ e) × (bkden ≡ d)
  unfolding turn_by
  went_on t = go (le err tol) refl where
    go : (b : Bool) → le err tol ≡ b → (b ≡ false) × (err ≡ e) × (bkden ≡ d)
    go true q =
        let h = rw q at t in
        let z : ◌≡◌ {A = ℕ} 0 1 = cc in
        absurd (omega arith)
    go false q =
        let h = rw q at t in
        (refl, cc, cc)

module _ (A : System) (bnrm tol : Float) (left iter : ℕ) (bkden err : Float) (w : Work) where
  abbrev next : Work
  next = (turned A (eqb iter 1) bkden w).work

  abbrev answer : Turned
  answer = turn_by tol (error_of A bnrm next) (turned A (eqb iter 1) bkden w).bkden

  loop-stops : (e d : Float) → answer ≡ Stop e d → loop A bnrm tol (suc left) iter bkden err w ≡ found e next.x
  unfolding loop
  loop-stops e d t =
      let s = stopped _ _ _ _ _ t in
      rw (s.0, loop, s.1)

  loop-goes-on : (e d : Float) → answer ≡ More e d → loop A bnrm tol (suc left) iter bkden err w ≡ loop A bnrm tol left (iter + 1) d e next
  unfolding loop
  loop-goes-on e d t =
      let s = went_on _ _ _ _ _ t in
      rw (s.0, loop, s.1, s.2)

-- ---- the scratch

module _ {n : ℕ} {e d : List Float} {w : Work} {m : List Float} (h : LoneHas n e (lone_store d w) m) where
  pub work-is : work_in n m ≡ w
  work-is = ap (λ (v : LoneStore). record { x = v X; r = v R; rr = v RR; z = v Z; zz = v ZZ; p = v P; pp = v PP }) (read h)

  pub diagonal-is : part m (7 * n) n ≡ d
  diagonal-is = ap (λ (v : LoneStore). v DIAG) (read h)

-- ---- the loop

-- at its head, for a scratch s₀ whose diagonal is in its place: what is left gives the whole loop's result
pub record Going (n : ℕ) (a : List Float) (bnrm tol : Float) (limit : ℕ) (s₀ s : List Float) (err bkden : Float) (iter : ℕ) : Type 0 where
  pub long : length s ≡ length s₀
  pub diagonal : part s₀ (7 * n) n ≡ diagonal_of n a → part s (7 * n) n ≡ diagonal_of n a
  pub rest : part s₀ (7 * n) n ≡ diagonal_of n a → drop (8 * n) s ≡ drop (8 * n) s₀
  pub is : part s₀ (7 * n) n ≡ diagonal_of n a
      → loop (lone_system n a) bnrm tol (limit - iter) iter bkden err (work_in n s) ≡ loop (lone_system n a) bnrm tol (limit - 1) 1 plus0 plus0 (work_in n s₀)

module _ (n : ℕ) (a : List Float) (bnrm tol : Float) (limit : ℕ) (s₀ : List Float) where
  pub going : Going n a bnrm tol limit s₀ s₀ plus0 plus0 1
  going = record { long = refl; diagonal = λ d. d; rest = λ d. refl; is = λ d. refl }

module _ {n : ℕ} {a : List Float} {bnrm tol : Float} {limit : ℕ} {s₀ s : List Float} {err bkden : Float} {iter : ℕ}
    (g : Going n a bnrm tol limit s₀ s err bkden iter) where
  pub ended : limit ≤ iter → Looped n a bnrm tol limit s₀ err s
  unfolding loop
  ended l =
      let z : limit - iter ≡ 0 = omega arith in
      record { is = λ d. rw z at (g.is d); rest = g.rest }

  module _ {t : Turned} {s' : List Float} (l : iter < limit) (o : LoneTurn n a (eqb iter 1) bkden bnrm tol s t s') where
    left_is : limit - iter ≡ suc (limit - (iter + 1))
    left_is = omega arith

    pub goes_on : {e d : Float} → length s' ≡ length s → t ≡ More e d → Going n a bnrm tol limit s₀ s' e d (iter + 1)
    goes_on {e} {d} k q = record {
      long = k ∙ g.long;
      diagonal = λ p. diagonal-is (o.left (g.diagonal p));
      rest = λ p. rest-is (o.left (g.diagonal p)) ∙ g.rest p;
      is = λ p.
          let m = loop-goes-on (lone_system n a) bnrm tol (limit - (iter + 1)) iter bkden err (work_in n s) e d (sym (o.is (g.diagonal p)) ∙ q) in
          rw (work-is (o.left (g.diagonal p))) (sym m ∙ ap (λ (k : ℕ). loop (lone_system n a) bnrm tol k iter bkden err (work_in n s)) (sym left_is) ∙ g.is p);
    }

    pub stopped-at : {e d r : Float} → t ≡ Stop e d → r ≡ error_in t → Looped n a bnrm tol limit s₀ r s'
    stopped-at {e} {d} q b = record {
      is = λ p.
          let m = loop-stops (lone_system n a) bnrm tol (limit - (iter + 1)) iter bkden err (work_in n s) e d (sym (o.is (g.diagonal p)) ∙ q) in
          let x = ap (λ (v : Work). v.x) (work-is (o.left (g.diagonal p))) in
          rw (x, b, q) (sym m ∙ ap (λ (k : ℕ). loop (lone_system n a) bnrm tol k iter bkden err (work_in n s)) (sym left_is) ∙ g.is p);
      rest = λ p. rest-is (o.left (g.diagonal p)) ∙ g.rest p;
    }
