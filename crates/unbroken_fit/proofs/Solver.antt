-- The solver's rounds over the store are solve_mut's loop. Assumes nothing.
use mathlib.Core.Path.{◌≡◌, refl, sym, ap, ◌∙◌, fun_ext}
use mathlib.Core.Bool.{Bool, true, false, cond}
use mathlib.Core.List.{List}
use Prim.Native.Nat.{ℕ, zero, suc, ◌+◌, ◌*◌}
use native.Mathlib.Nat.{zero-add}
use native.Mathlib.Omega.{arith}
use lib.Dec.{eqb}
use lib.Ieee.{Float, nan, le}
use Rattle.refusal.specs.declared.Failure.{Failure}
use Rattle.numbers.specs.Ops.{◌⊕◌, ◌⊗◌}
use Rattle.arrays.specs.Part.{part}
use Rattle.arrays.proofs.Part.{tab-ext, get_or-part}
use Rattle.arrays.specs.Sums.{◌!◌, plus0}
use Rattle.arrays.proofs.Folds.{fold-ext}
use Rattle.matrices.specs.Products.{row_product, rows_of}
use Rattle.settings.specs.declared.Terms.{Terms}
use Rattle.layout.specs.declared.Sizes.{Sizes}
use Rattle.layout.specs.Store.{upd}
use Rattle.layout.specs.Slots.{Store, ◌⟨◌≔◌⟩}
use Rattle.layout.specs.Slots.{Slot.W, Slot.U, Slot.F, Slot.D1, Slot.D2, Slot.PRB, Slot.PRS, Slot.DXU, Slot.GRAD, Slot.R, Slot.RR, Slot.ZS, Slot.PP}
use Rattle.layout.specs.Slots.{Slot.CENTRE, Slot.SCALE, Slot.RECIP, Slot.GRAM, Slot.Y, Slot.Z, Slot.DESIGN}
use Rattle.bg_solver.specs.Solver.{error_of, turned}
use Rattle.inner_solver.specs.Inner.{halves, low_times, high_times, solved_of, times_of, system_of, with_work, round_of, turn_store, turn_error}
use Rattle.pause.specs.Progress.{Progress, going}
use Rattle.pause.specs.Parts.{Turned, more, stop, Counts, solver+, End}
use Rattle.pause.specs.Unbroken.{Reached, reached, solve}
use Rattle.lasso_optimizer.specs.declared.Scalars.{Scalars}
use Rattle.lasso_optimizer.specs.Data.{Data, held, with_round}
use Rattle.lasso_optimizer.specs.Solving.{turn_to, turns, aim}
use Rattle.lasso_optimizer.specs.Fit.{parts}
use Rattle.smartcore.specs.BgSolver.{Solver, Solution, ok, err, loop}
use Rattle.smartcore.specs.LassoOptimizer.{solve_preconditioner, mat_vec_mul, self_of}

-- what no round of a fit writes
pub record Fixed : Type 0 where
  pub gram : List Float
  pub y : List Float
  pub design : List Float
  pub centre : List Float
  pub scale : List Float
  pub recip : List Float

abbrev pub fixed_in : Store → Fixed
fixed_in v = record { gram = v GRAM; y = v Y; design = v DESIGN; centre = v CENTRE; scale = v SCALE; recip = v RECIP }

-- what no round of the solver writes and the search reads
pub record Spared : Type 0 where
  pub w : List Float
  pub u : List Float
  pub f : List Float
  pub grad : List Float
  pub z : List Float
  pub fixed : Fixed

abbrev pub spared_in : Store → Spared
spared_in v = record { w = v W; u = v U; f = v F; grad = v GRAD; z = v Z; fixed = fixed_in v }

-- ---- the solver's three functions: of the vector that it multiplies the product with the Gram takes the first p elements

rows-of-part : (m : List Float) (rows cols : ℕ) (x : List Float) → rows_of m rows cols (part x 0 cols) ≡ rows_of m rows cols x
unfolding rows_of
rows-of-part m rows cols x =
    tab-ext (row_product m cols (part x 0 cols)) (row_product m cols x) rows
    (λ i h.
    fold-ext (λ (a y : Float). a ⊕ y) plus0 (λ j. m ! (i * cols + j) ⊗ part x 0 cols ! j) (λ j. m ! (i * cols + j) ⊗ x ! j) cols
    (λ j l. ap (λ (y : Float). m ! (i * cols + j) ⊗ y) (get_or-part x 0 cols j nan l ∙ ap (λ (k : ℕ). x ! k) (zero-add j))))

abbrev pub self_by : ℕ → List Float → List Float → List Float → List Float → List Float → Solver
self_by p gram d1 d2 prb prs = record { mat_vec_mul = times_of p gram d1 d2; mat_t_vec_mul = times_of p gram d1 d2; solve_preconditioner = solved_of p d1 d2 prb prs }

pub self-is : (p : ℕ) (gram d1 d2 prb prs : List Float) → self_by p gram d1 d2 prb prs ≡ self_of p gram d1 d2 prb prs
unfolding times_of solved_of self_of mat_vec_mul solve_preconditioner
self-is p gram d1 d2 prb prs =
    ap (λ (f : List Float → List Float). record { mat_vec_mul = f; mat_t_vec_mul = f; solve_preconditioner = solved_of p d1 d2 prb prs })
    (fun_ext (λ x. ap (λ (atax : List Float). halves p (low_times p atax d1 d2 x) (high_times p d1 d2 x)) (sym (rows-of-part gram p p x))))

abbrev pub self_in : Sizes → Store → Solver
self_in sh v = self_by sh.p (v GRAM) (v D1) (v D2) (v PRB) (v PRS)

-- the counts as numbers
abbrev pub count : ℕ → ℕ → ℕ → Counts
count r k j = record { rounds = r; solver = k; trials = j }

-- two choices by one test
pub choose : {O X : Type 0} (Rel : O → X → Type 0) (b : Bool) (o₁ o₂ : O) (x₁ x₂ : X) → Rel o₁ x₁ → Rel o₂ x₂ → Rel (cond b o₁ o₂) (elim b [
  | true ↦ x₁
  | false ↦ x₂
])
choose Rel true o₁ o₂ x₁ x₂ p q = p
choose Rel false o₁ o₂ x₁ x₂ p q = q

-- from k₀ solver rounds on
module _ (sh : Sizes) (tm : Terms) (tol : Float) (m : List Float) (r k₀ j : ℕ) (a : Scalars) where
  pub record SolvedTo (kept : Spared) (o : Progress (End Failure Data) (Reached Data)) (error : Float) (x : List Float) (made : ℕ) : Type 0 where
    pub bkden : Float
    pub store : Store
    pub is : o ≡ going (reached (count r (k₀ + made) j) (aim sh tm (held (with_round a error bkden) store)))
    pub same : spared_in store ≡ kept
    pub at : store DXU ≡ x

  abbrev pub SolvedBy : Spared → Progress (End Failure Data) (Reached Data) → Solution → Type 0
  SolvedBy kept o (ok error x made) = SolvedTo kept o error x made
  SolvedBy kept o (err k) = ⊥

  module _ (kept : Spared) (f k sol : ℕ) where
    abbrev After : Turned Data → Solution → Type 0
    After o s =
        SolvedBy kept
        (elim o [
          | more t ↦ solve (parts sh tm tol m) f (k + 1) (reached (solver+ (count r sol j)) t)
          | stop t ↦ going (reached (solver+ (count r sol j)) (aim sh tm t))
        ])
        s

  ended : (made sol : ℕ) (error bkden : Float) (v : Store) → sol ≡ k₀ + made
      → SolvedTo (spared_in v) (going (reached (count r sol j) (aim sh tm (held (with_round a error bkden) v)))) error (v DXU) made
  ended made sol error bkden v e = record {
    bkden = bkden;
    store = v;
    is = ap (λ (k : ℕ). going (reached (count r k j) (aim sh tm (held (with_round a error bkden) v)))) e;
    same = refl;
    at = refl;
  }

  pub solve-loop : (f k made sol : ℕ) (error bkden : Float) (v : Store) → sol ≡ k₀ + made
      → SolvedBy (spared_in v) (solve (parts sh tm tol m) f k (reached (count r sol j) (held (with_round a error bkden) v)))
      (loop (self_in sh v) (2 * sh.p) a.bnrm a.pcgtol f k made (v DXU) (v R) (v RR) (v ZS) (v PP) bkden error)
  unfolding solve loop parts turns turn_to turn_error round_of turn_store with_work system_of turned error_of solver+ ◌⟨◌≔◌⟩ upd
  solve-loop zero k made sol error bkden v e = ended made sol error bkden v e
  solve-loop (suc f) k made sol error bkden v e =
      let v' = turn_store sh (eqb k 1) bkden v in
      let bkden' = (round_of sh (eqb k 1) bkden v).bkden in
      let error' = turn_error sh (eqb k 1) bkden a.bnrm v in
      let e' : sol + 1 ≡ k₀ + (made + 1) = omega arith in
      choose (After (spared_in v) f k sol) (le error' a.pcgtol) (stop (held (with_round a error' bkden') v')) (more (held (with_round a error' bkden') v'))
      (ok error' (v' DXU) (made + 1))
      (loop (self_in sh v') (2 * sh.p) a.bnrm a.pcgtol f (k + 1) (made + 1) (v' DXU) (v' R) (v' RR) (v' ZS) (v' PP) bkden' error')
      (ended (made + 1) (sol + 1) error' bkden' v' e')
      (solve-loop f (k + 1) (made + 1) (sol + 1) error' bkden' v' e')
