-- The lone solver is solve_mut with the trait's own functions. Assumes nothing.
use Rattle.refusal.specs.declared.Refusal.{Refusal}
use Rattle.std.specs.Prelude.{Ok, Result}
use mathlib.Core.Path.{◌≡◌, refl, ap, ◌∙◌, fun_ext, subst}
use mathlib.Core.Bool.{Bool, true, false, not, cond}
use mathlib.Core.List.{List}
use mathlib.Core.Logic.{◌⊎◌, inl, inr}
use Prim.Native.Nat.{ℕ, zero, suc, ◌+◌, ◌*◌, ◌-◌}
use borrow.Author.Tests.{ne_eqb}
use lib.Dec.{T, eqb}
use lib.Ieee.{Float, le, eq}
use Rattle.numbers.specs.Ops.{◌⊘◌}
use Rattle.arrays.specs.Part.{tab}
use Rattle.arrays.proofs.Part.{tab-ext}
use Rattle.arrays.specs.Sums.{◌!◌, plus0, norm_two_of}
use Rattle.arrays.specs.Vectors.{fill_of}
use Rattle.bg_solver.specs.Solver.{System, Work, begun, turned, error_of}
use Rattle.lone_rounds.specs.Lone.{lone_system, diagonal_of, over_of, divided_of}
use Rattle.lone_rounds.specs.Loop.{Result as Ended, found, loop as loop_l, solved}
use Rattle.lone_solver.proofs.LoneSolver.{Solves, FirstRefusal, Accepted, every-input, solved-otherwise}
use Rattle.smartcore.specs.BgSolver.{Solver, bg_solver, Solution, ok, err, loop, solve_mut}

-- solve_mut's Ok with this error and this solution, the rounds made left aside
abbrev pub Found : Ended → Solution → Type 0
Found o (ok error x made) = o ≡ found error x
Found o (err k) = ⊥

-- two choices by one test
choose : (b : Bool) (o₁ o₂ : Ended) (s₁ s₂ : Solution) → Found o₁ s₁ → Found o₂ s₂ → Found (elim b [
  | true ↦ o₁
  | false ↦ o₂
]) (elim b [
  | true ↦ s₁
  | false ↦ s₂
])
choose true o₁ o₂ s₁ s₂ p q = p
choose false o₁ o₂ s₁ s₂ p q = q

abbrev self_of : System → Solver
self_of A = record { mat_vec_mul = A.product; mat_t_vec_mul = A.transposed; solve_preconditioner = A.preconditioned }

loop-is : (A : System) (bnrm tol : Float) (left iter made : ℕ) (bkden error : Float) (w : Work)
    → Found (loop_l A bnrm tol left iter bkden error w) (loop (self_of A) A.size bnrm tol left iter made w.x w.r w.rr w.z w.pp bkden error)
unfolding loop_l loop turned error_of
loop-is A bnrm tol zero iter made bkden error w = refl
loop-is A bnrm tol (suc left) iter made bkden error w =
    let o = turned A (eqb iter 1) bkden w in
    let v = o.work in
    let e = error_of A bnrm v in
    choose (le e tol) (found e v.x) (loop_l A bnrm tol left (iter + 1) o.bkden e v) (ok e v.x (made + 1))
    (loop (self_of A) A.size bnrm tol left (iter + 1) (made + 1) v.x v.r v.rr v.z v.pp o.bkden e) refl
    (loop-is A bnrm tol left (iter + 1) (made + 1) o.bkden e v)

-- ---- the trait's own functions

turned_round : {A : Type 0} (b : Bool) (x y : A) → cond b x y ≡ cond (not b) y x
turned_round true x y = refl
turned_round false x y = refl

self-is : (n : ℕ) (a : List Float) → self_of (lone_system n a) ≡ bg_solver n a
unfolding lone_system bg_solver divided_of diagonal_of over_of
self-is n a =
    let d = tab (λ i. a ! (i * n + i)) n in
    ap (λ (f : List Float → List Float). record { mat_vec_mul = (lone_system n a).product; mat_t_vec_mul = (lone_system n a).transposed; solve_preconditioner = f })
    (fun_ext (λ b. tab-ext _ _ n (λ i l. turned_round (eq (d ! i) plus0) (b ! i) (b ! i ⊘ d ! i))))

-- neither Err is returned
past : (o : Ended) (s : Solution) (u v : Bool) → u ≡ false → v ≡ false → Found o s → Found o (elim u [
  | true ↦ err 8
  | false ↦ elim v [
    | true ↦ err 10
    | false ↦ s
  ]
])
past o s true v t l h = absurd (subst T t tt)
past o s false true t l h = absurd (subst T l tt)
past o s false false t l h = h

begun-is : (n : ℕ) (a b x : List Float) (tol : Float) (limit : ℕ) → le tol plus0 ≡ false → eqb limit 0 ≡ false
    → Found (solved n a b x tol limit) (solve_mut (self_of (lone_system n a)) n b x tol limit)
unfolding solved solve_mut begun lone_system
begun-is n a b x tol limit t l =
    let o = fill_of plus0 n in
    let w : Work = record { x = x; r = o; rr = o; z = o; zz = o; p = o; pp = o } in
    past (solved n a b x tol limit) _ (le tol plus0) (eqb limit 0) t l
    (loop-is (lone_system n a) (norm_two_of n b) tol (limit - 1) 1 0 plus0 plus0 (begun (lone_system n a) b w))

-- THE LONE SOLVER IS SMARTCORE'S, where 8 and 10 do not refuse
pub lone-as-the-rust : (n : ℕ) (a b x : List Float) (tol : Float) (limit : ℕ) → le tol plus0 ≡ false → eqb limit 0 ≡ false
    → Found (solved n a b x tol limit) (solve_mut (bg_solver n a) n b x tol limit)
lone-as-the-rust n a b x tol limit t l =
    subst (λ (self : Solver). Found (solved n a b x tol limit) (solve_mut self n b x tol limit)) (self-is n a) (begun-is n a b x tol limit t l)

-- ---- on the contract of `solve`

abbrev error_in : Ended → Float
error_in (found e x) = e

abbrev solution_in : Ended → List Float
solution_in (found e x) = x

-- the call answers solve_mut's error and leaves its solution
abbrev pub SolvedAs : Result Float Refusal → List Float → Solution → Type 0
SolvedAs r x (ok error v made) = (r ≡ Ok error) × (x ≡ v)
SolvedAs r x (err k) = ⊥

-- WHERE NO REFUSAL HOLDS, `solve` gives what solve_mut gives
pub solves-as-the-rust : (n : ℕ) (a b x : List Float) (tol : Float) (limit : ℕ) (s : List Float) {r : Result Float Refusal} {x' s' : List Float}
    → Solves n a b x tol limit s r x' s' → ((k i : ℕ) → FirstRefusal n a b x tol limit s k i → ⊥) → SolvedAs r x' (solve_mut (bg_solver n a) n b x tol limit)
solves-as-the-rust n a b x tol limit s {r} {x'} c none = go (every-input n a b x tol limit s) where
  told : (o : Solution) → Found (solved n a b x tol limit) o → SolvedAs r x' o
  told (ok error v made) h =
      let f = solved-otherwise n a b x tol limit s c none in
      let e = f.2 ∙ h in
      (f.1 ∙ ap Ok (ap error_in e), ap solution_in e)
  told (err k) h = h

  go : Accepted n a b x tol limit s ⊎ ((k : ℕ) × (i : ℕ) × FirstRefusal n a b x tol limit s k i) → SolvedAs r x' (solve_mut (bg_solver n a) n b x tol limit)
  go (inl h) = told (solve_mut (bg_solver n a) n b x tol limit) (lone-as-the-rust n a b x tol limit h.tolerance (ne_eqb limit 0 h.rounds))
  go (inr w) = absurd (none w.0 w.1 w.2)
