-- A round over the store is a round of optimize. Assumes nothing.
use mathlib.Core.Path.{◌≡◌, refl, sym, ap, ◌∙◌, subst, fun_ext}
use mathlib.Core.Bool.{Bool, true, false, not, ◌&&◌, ◌||◌, cond}
use mathlib.Core.List.{List}
use Prim.Native.Nat.{ℕ, ◌+◌, ◌*◌}
use native.Mathlib.Omega.{arith}
use native.Mathlib.Decide.{ℕ_discrete}
use lib.Dec.{eqb}
use lib.Ieee.{Float, lt, le}
use Rattle.refusal.specs.declared.Failure.{Failure}
use Rattle.refusal.specs.declared.Failure.TheVariants.{Search, Tolerance}
use Rattle.numbers.specs.Ops.{◌⊕◌, ◌⊖◌, ◌⊗◌, ◌⊘◌}
use Rattle.numbers.specs.Constants.{one}
use Rattle.arrays.specs.Part.{part}
use Rattle.arrays.specs.Sums.{plus0, dot_of, sum_of, norm2_of, norm_inf_of}
use Rattle.arrays.specs.Vectors.{map_of, fill_of}
use Rattle.matrices.specs.Products.{rows_of}
use Rattle.settings.specs.declared.Terms.{Terms}
use Rattle.layout.specs.declared.Sizes.{Sizes}
use Rattle.layout.specs.Store.{upd}
use Rattle.layout.specs.Slots.{Slot, Store, num, ◌⟨◌≔◌⟩}
use Rattle.layout.proofs.Slots.{table, seen_same, seen_other}
use Rattle.layout.specs.Slots.{Slot.W, Slot.U, Slot.F, Slot.D1, Slot.D2, Slot.PRB, Slot.PRS, Slot.DXU, Slot.GRAD, Slot.R, Slot.RR, Slot.ZS, Slot.PP, Slot.Y, Slot.NU, Slot.XNU, Slot.GRAM}
use Rattle.bg_solver.specs.Solver.{begun}
use Rattle.inner_solver.specs.Inner.{system_of, with_work, begin_store, bnrm_of}
use Rattle.lazy_normalization.specs.Lazy.{lazy_rows}
use Rattle.design_products.specs.Mode.{matvec_of, transposed_of}
use Rattle.newton.specs.Newton.{next_t, g1_of, grad_of, prs_of, tolerance}
use Rattle.line_search.specs.Search.{sumlogneg_of, phi_of}
use Rattle.pause.specs.Progress.{Progress, over, going, then}
use Rattle.pause.specs.Parts.{Opened, ready, done, fails, Counts as CountsP, round+, End, end, converged as converged_p, failed as failed_p}
use Rattle.pause.specs.Unbroken.{Reached, reached, open_round, solve, line_search, one_round}
use Rattle.lasso_optimizer.specs.declared.Scalars.{Scalars}
use Rattle.lasso_optimizer.specs.Data.{Data, held, store_of, opened, with_round, stepped}
use Rattle.lasso_optimizer.specs.Opening.{residual_store, shrunk_store, gap_store, primal_of, gap_of, dual_of, barrier_store, gradient_store, preconditioner_store, newton_store}
use Rattle.lasso_optimizer.specs.Opening.{pcgtol_of, ready_by, open_by, opens}
use Rattle.lasso_optimizer.specs.Solving.{missed_by, gdx_of, phi_at, aim_by, aim}
use Rattle.lasso_optimizer.specs.Fit.{parts}
use Rattle.smartcore.specs.BgSolver.{Solver, Solution, ok, err, loop, solve_mut}
use Rattle.smartcore.specs.LassoOptimizer.{Fitted, converged, failed, Point, pcgmaxi, max_ls_iter, self_of, sumlogneg}
use Rattle.smartcore.specs.LassoOptimizer.{Vars, Searched, accepted, exceeded, Next, on, out, search, round}
use Rattle.smartcore.proofs.First.{first_round}
use Rattle.unbroken_fit.specs.Unbroken.{counts_of, point_of, told}
use Rattle.unbroken_fit.proofs.Solver.{Fixed, fixed_in, Spared, spared_in, self-is, self_in, count, choose, SolvedBy, solve-loop}
use Rattle.unbroken_fit.proofs.Search.{Left, SearchedBy, search_in, search-loop}

-- ---- a write of what is there already

put_back : (v : Store) (w : Slot) → (v ⟨ w ≔ (λ u. u w) ⟩) ≡ v
put_back v w = fun_ext (λ s. go s (ℕ_discrete (num s) (num w))) where
  go : (s : Slot) → Dec (num s ≡ num w) → (v ⟨ w ≔ (λ u. u w) ⟩) s ≡ v s
  go s (yes q) =
      let e : s ≡ w = (table (record { n = 0; p = 0; k = 0; lazy = true; stored = 0; pr = 0; pc = 0 })).inj s w q in
      rw (e, seen_same v w (λ u. u w))
  go s (no q) = seen_other v w (λ u. u w) s q

-- a write by a test is a write of a choice
write-if : (b : Bool) (v : Store) (w : Slot) (f : Store → List Float) → cond b (v ⟨ w ≔ f ⟩) v ≡ (v ⟨ w ≔ (λ u. cond b (f u) (u w)) ⟩)
write-if true v w f = refl
write-if false v w f = sym (put_back v w)

-- ---- the flag

abbrev pub pitr_of : Bool → ℕ
pitr_of b = cond b pcgmaxi 0

pitr-zero : (b : Bool) → eqb (pitr_of b) 0 ≡ not b
pitr-zero true = refl
pitr-zero false = refl

pitr-next : (b c : Bool) → pitr_of (b || c) ≡ cond c pcgmaxi (pitr_of b)
pitr-next true true = refl
pitr-next true false = refl
pitr-next false true = refl
pitr-next false false = refl

-- ---- the variables of optimize in the store

abbrev pub vars_of : CountsP → Data → Vars
vars_of c (held a v) = record {
  w = v W;
  u = v U;
  f = v F;
  dxu = v DXU;
  t = a.t;
  s = a.s;
  dobj = a.dual;
  pitr = pitr_of a.missed;
  counts = counts_of c;
}

abbrev pub last_in : End Failure Data → Store
last_in (end h c d) = store_of d

pub record GoesOn (fixed : Fixed) (o : Progress (End Failure Data) (Reached Data)) (v : Vars) : Type 0 where
  pub counts : CountsP
  pub left : Data
  pub is : o ≡ going (reached counts left)
  pub vars : vars_of counts left ≡ v
  pub same : fixed_in (store_of left) ≡ fixed

-- an end and smartcore's, with the vectors that are fixed
pub record Ends (fixed : Fixed) (last : End Failure Data) (e : Fitted Point) : Type 0 where
  pub says : told last ≡ e
  pub same : fixed_in (last_in last) ≡ fixed

pub record IsOver (fixed : Fixed) (o : Progress (End Failure Data) (Reached Data)) (e : Fitted Point) : Type 0 where
  pub last : End Failure Data
  pub is : o ≡ over last
  pub ends : Ends fixed last e

abbrev pub RoundBy : Fixed → Progress (End Failure Data) (Reached Data) → Next → Type 0
RoundBy fixed o (on v) = GoesOn fixed o v
RoundBy fixed o (out e) = IsOver fixed o e

module _ (sh : Sizes) (tm : Terms) (tol : Float) (m : List Float) where
  -- the product with the design, of what is fixed; lazy where b
  abbrev pub matvec_at : Bool → Fixed → List Float → List Float
  matvec_at b x xs = cond b (lazy_rows sh.n sh.p tm m x.centre x.scale x.recip xs) (rows_of x.design sh.stored sh.p xs)

  -- ---- the search, after the solver

  module _ (r k : ℕ) (a : Scalars) where
    abbrev after_search : List Float → ℕ → Searched → Next
    after_search x pitr o = elim o [
      | exceeded trials ↦ out (failed 7 (record { openings = r; solver = k; trials = trials }))
      | accepted s neww newu newf trials ↦
          on (record { w = neww; u = newu; f = newf; dxu = x; t = a.t; s = s; dobj = a.dual; pitr = pitr; counts = record { openings = r; solver = k; trials = trials } })
    ]

    abbrev vars_left : Float → ℕ → Left → ℕ → Vars
    vars_left s trials l n = record {
      w = l.w;
      u = l.u;
      f = l.f;
      dxu = l.dxu;
      t = a.t;
      s = s;
      dobj = a.dual;
      pitr = n;
      counts = record { openings = r; solver = k; trials = trials };
    }

    searched : (x : List Float) (fixed : Fixed) (pitr : ℕ) → pitr_of a.missed ≡ pitr → (o : Progress (End Failure Data) (Reached Data)) (s : Searched)
        → SearchedBy sh tm tol m r k a x fixed o s → RoundBy fixed o (after_search x pitr s)
    unfolding counts_of told
    searched x fixed pitr e o (accepted s neww newu newf trials) h = record {
      counts = count r k trials;
      left = held (stepped a s) h.store;
      is = h.is;
      vars = ap (λ (l : Left). vars_left s trials l (pitr_of a.missed)) h.at
          ∙ ap (vars_left s trials (record { w = neww; u = newu; f = newf; dxu = x; fixed = fixed })) e;
      same = ap (λ (l : Left). l.fixed) h.at;
    }
    searched x fixed pitr e o (exceeded trials) h = record { last = end (failed_p Search) (count r k trials) h.last; is = h.is; ends = record { says = refl; same = h.same } }

  -- ---- what follows the solver's last round

  module _ (r k₀ j : ℕ) (a : Scalars) where
    abbrev after_aim : Spared → List Float → Float → ℕ → Next
    after_aim kept x error made =
        after_search r (k₀ + made) a x (cond (lt a.pcgtol error) pcgmaxi (pitr_of a.missed))
        (search sh.k sh.p kept.fixed.y tm.lambda (matvec_at sh.lazy kept.fixed) kept.w kept.u (part x 0 sh.p) (part x sh.p sh.p) a.t
        (dot_of sh.k kept.z kept.z ⊕ tm.lambda ⊗ sum_of sh.p kept.u ⊖ sumlogneg sh.p kept.f ⊘ a.t) (dot_of (2 * sh.p) kept.grad x)
        max_ls_iter j one)

    abbrev after_solve : Spared → Solution → Next
    after_solve kept s = elim s [
      | err k ↦ out (failed k (record { openings = r; solver = k₀; trials = j }))
      | ok error x made ↦ after_aim kept x error made
    ]

    aim-is : (error bkden : Float) (made : ℕ) (v : Store)
        → RoundBy (fixed_in v) (line_search (parts sh tm tol m) 100 (reached (count r (k₀ + made) j) (aim sh tm (held (with_round a error bkden) v))))
        (after_aim (spared_in v) (v DXU) error made)
    unfolding aim aim_by missed_by gdx_of phi_at phi_of sumlogneg_of sumlogneg matvec_of
    aim-is error bkden made v =
        let a' = aim_by sh tm (with_round a error bkden) v in
        searched r (k₀ + made) a' (v DXU) (fixed_in v) _ (pitr-next a.missed (lt a.pcgtol error))
        (line_search (parts sh tm tol m) 100 (reached (count r (k₀ + made) j) (held (stepped a' one) v))) (search_in sh tm m a' v 100 j one)
        (search-loop sh tm tol m r (k₀ + made) a' 100 j one v)

    solve-is : (kept : Spared) (o : Progress (End Failure Data) (Reached Data)) (s : Solution) → SolvedBy sh tm tol m r k₀ j a kept o s
        → RoundBy kept.fixed (then o (line_search (parts sh tm tol m) 100)) (after_solve kept s)
    unfolding then
    solve-is kept o (ok error x made) h =
        let w = reached (count r (k₀ + made) j) (aim sh tm (held (with_round a error h.bkden) h.store)) in
        let now = line_search (parts sh tm tol m) 100 w in
        subst (λ (o' : Progress (End Failure Data) (Reached Data)). RoundBy kept.fixed (then o' (line_search (parts sh tm tol m) 100)) (after_aim kept x error made)) (sym h.is)
        (subst (λ (l : Spared). RoundBy l.fixed now (after_aim l x error made)) h.same
        (subst (λ (x' : List Float). RoundBy (fixed_in h.store) now (after_aim (spared_in h.store) x' error made)) h.at
        (aim-is error h.bkden made h.store)))
    solve-is kept o (err k) h = absurd h

  -- ---- the opening

  module _ (c : CountsP) where
    abbrev after_open : Opened Failure Data → Progress (End Failure Data) (Reached Data)
    after_open o =
        then
        (elim o [
          | ready t ↦ going (reached (round+ c) t)
          | done t ↦ over (end converged_p (round+ c) t)
          | fails x t ↦ over (end (failed_p x) (round+ c) t)
        ])
        (λ w. then (solve (parts sh tm tol m) 4999 1 w) (line_search (parts sh tm tol m) 100))

    -- what follows the Newton terms in u
    abbrev after_newton : Scalars → Float → Float → Float → Store → Solver → Next
    after_newton a t dual pcgtol u self =
        after_solve (c.rounds + 1) c.solver c.trials (opened a t dual pcgtol (bnrm_of sh u)) (spared_in u)
        (solve_mut self (2 * sh.p) (u GRAD) (u DXU) pcgtol pcgmaxi)

    -- the solver's loop from its first lines, over what the last solve left in pp, bkden and the error
    abbrev loop_in : Store → Float → List Float → Float → Float → Solution
    loop_in u pcgtol pp bkden error =
        loop (self_in sh u) (2 * sh.p) (bnrm_of sh u) pcgtol 4999 1 0 (begin_store sh u DXU) (begin_store sh u R) (begin_store sh u RR) (begin_store sh u ZS) pp bkden error

    begun-is : (a : Scalars) (t dual pcgtol : Float) (u : Store)
        → RoundBy (fixed_in u)
        (then (solve (parts sh tm tol m) 4999 1 (reached (round+ c) (held (opened a t dual pcgtol (bnrm_of sh u)) (begin_store sh u)))) (line_search (parts sh tm tol m) 100))
        (after_solve (c.rounds + 1) c.solver c.trials (opened a t dual pcgtol (bnrm_of sh u)) (spared_in u) (loop_in u pcgtol (begin_store sh u PP) a.bkden a.error))
    unfolding begin_store with_work round+ ◌⟨◌≔◌⟩ upd
    begun-is a t dual pcgtol u =
        let a' = opened a t dual pcgtol (bnrm_of sh u) in
        let v = begin_store sh u in
        let e : c.solver ≡ c.solver + 0 = omega arith in
        solve-is (c.rounds + 1) c.solver c.trials a' (spared_in u)
        (solve (parts sh tm tol m) 4999 1 (reached (round+ c) (held a' v)))
        (loop_in u pcgtol (v PP) a.bkden a.error)
        (solve-loop sh tm tol m (c.rounds + 1) c.solver c.trials a' 4999 1 0 c.solver a.error a.bkden v e)

    anew_is : (a : Scalars) (t dual pcgtol : Float) (u : Store)
        → RoundBy (fixed_in u)
        (then (solve (parts sh tm tol m) 4999 1 (reached (round+ c) (held (opened a t dual pcgtol (bnrm_of sh u)) (begin_store sh u)))) (line_search (parts sh tm tol m) 100))
        (after_solve (c.rounds + 1) c.solver c.trials (opened a t dual pcgtol (bnrm_of sh u)) (spared_in u) (loop_in u pcgtol (fill_of plus0 (2 * sh.p)) plus0 plus0))
    anew_is a t dual pcgtol u =
        let a' = opened a t dual pcgtol (bnrm_of sh u) in
        let o = then (solve (parts sh tm tol m) 4999 1 (reached (round+ c) (held a' (begin_store sh u)))) (line_search (parts sh tm tol m) 100) in
        subst (λ (s : Solution). RoundBy (fixed_in u) o (after_solve (c.rounds + 1) c.solver c.trials a' (spared_in u) s))
        (first_round (self_in sh u) (2 * sh.p) (bnrm_of sh u) pcgtol 4998 0 _ _ _ _ (begin_store sh u PP) (fill_of plus0 (2 * sh.p)) a.bkden plus0 a.error plus0) (begun-is a t dual pcgtol u)

    ready-is : (a : Scalars) (t dual pcgtol : Float) (u : Store)
        → RoundBy (fixed_in u) (after_open (ready_by sh a t dual pcgtol u)) (after_newton a t dual pcgtol u (self_in sh u))
    unfolding ready_by solve_mut then told counts_of round+ begin_store begun system_of bnrm_of with_work ◌⟨◌≔◌⟩ upd
    ready-is a t dual pcgtol u =
        let a' = opened a t dual pcgtol (bnrm_of sh u) in
        choose (λ (o : Opened Failure Data) (s : Solution). RoundBy (fixed_in u) (after_open o) (after_solve (c.rounds + 1) c.solver c.trials a' (spared_in u) s))
        (le pcgtol plus0) (fails Tolerance (held (opened a t dual pcgtol a.bnrm) u)) (ready (held a' (begin_store sh u))) (err 8) (loop_in u pcgtol (fill_of plus0 (2 * sh.p)) plus0 plus0)
        (record { last = end (failed_p Tolerance) (round+ c) (held (opened a t dual pcgtol a.bnrm) u); is = refl; ends = record { says = refl; same = refl } })
        (anew_is a t dual pcgtol u)

    -- the solver's tolerance, by the flag
    abbrev pcgtol_in : ℕ → Scalars → Float → Store → Float
    pcgtol_in r a gap u = tolerance (not (eqb r 0) && eqb (pitr_of a.missed) 0) gap (norm2_of (2 * sh.p) (u GRAD))

    abbrev rust_in : Store → Solver
    rust_in u = self_of sh.p (u GRAM) (u D1) (u D2) (u PRB) (u PRS)

    newton_is : (r : ℕ) (a : Scalars) (t dual gap : Float) (u : Store)
        → RoundBy (fixed_in u) (after_open (ready_by sh a t dual (pcgtol_of sh r a gap u) u)) (after_newton a t dual (pcgtol_in r a gap u) u (rust_in u))
    unfolding pcgtol_of
    newton_is r a t dual gap u =
        let pcgtol = pcgtol_in r a gap u in
        subst
        (λ (b : Bool).
        RoundBy (fixed_in u) (after_open (ready_by sh a t dual (tolerance (not (eqb r 0) && b) gap (norm2_of (2 * sh.p) (u GRAD))) u))
        (after_newton a t dual pcgtol u (rust_in u)))
        (pitr-zero a.missed)
        (subst (λ (self : Solver). RoundBy (fixed_in u) (after_open (ready_by sh a t dual pcgtol u)) (after_newton a t dual pcgtol u self))
        (self-is sh.p (u GRAM) (u D1) (u D2) (u PRB) (u PRS)) (ready-is a t dual pcgtol u))

  -- ---- the round

  -- the gap part's store, with one write of nu for both ways of its test
  abbrev gap_in : Store → Store
  gap_in v =
      let b = lt tm.lambda (norm_inf_of sh.p (residual_store sh tm m v XNU)) in
      let f : Float → Float = λ x. x ⊗ (tm.lambda ⊘ norm_inf_of sh.p (residual_store sh tm m v XNU)) in
      residual_store sh tm m v ⟨ NU ≔ (λ u. cond b (map_of f sh.k (u NU)) (u NU)) ⟩

  gap_is : (v : Store) → gap_store sh tm m v ≡ gap_in v
  unfolding gap_store shrunk_store
  gap_is v = write-if (lt tm.lambda (norm_inf_of sh.p (residual_store sh tm m v XNU))) (residual_store sh tm m v) NU _

  abbrev pub round_in : ℕ → CountsP → Scalars → Store → Next
  round_in r c a v =
      round sh.k sh.p (v Y) tm.lambda (matvec_of sh tm m v) (v GRAM) tol (transposed_of sh tm m v) r (vars_of c (held a v))

  open_is : (r : ℕ) (c : CountsP) (a : Scalars) (v : Store)
      → RoundBy (fixed_in v) (after_open c (open_by sh tm m tol r a (gap_of sh tm a.dual (gap_in v)) (dual_of sh a.dual (gap_in v)) (gap_in v))) (round_in r c a v)
  unfolding open_by round residual_store gap_of primal_of dual_of newton_store barrier_store gradient_store preconditioner_store next_t g1_of grad_of prs_of tolerance matvec_of transposed_of then told counts_of point_of round+ ◌⟨◌≔◌⟩ upd
  open_is r c a v =
      let g = gap_in v in
      let dual = dual_of sh a.dual g in
      let gap = gap_of sh tm a.dual g in
      let t = next_t sh.p a.s gap a.t in
      let u = newton_store sh tm m t g in
      let d = held (opened a a.t dual a.pcgtol a.bnrm) g in
      choose (λ (o : Opened Failure Data) (x : Next). RoundBy (fixed_in v) (after_open c o) x) (lt (gap ⊘ dual) tol) (done d) (ready_by sh a t dual (pcgtol_of sh r a gap u) u)
      (out (converged (counts_of (round+ c)) (record { w = v W; u = v U; t = a.t }))) (after_newton c a t dual (pcgtol_in c r a gap u) u (rust_in c u))
      (record { last = end converged_p (round+ c) d; is = refl; ends = record { says = refl; same = refl } })
      (newton_is c r a t dual gap u)

  pub round_is : (r : ℕ) (c : CountsP) (a : Scalars) (v : Store) → RoundBy (fixed_in v) (one_round (parts sh tm tol m) r (reached c (held a v))) (round_in r c a v)
  unfolding one_round open_round parts opens
  round_is r c a v =
      subst
      (λ (g : Store). RoundBy (fixed_in v) (after_open c (open_by sh tm m tol r a (gap_of sh tm a.dual g) (dual_of sh a.dual g) g)) (round_in r c a v))
      (sym (gap_is v)) (open_is r c a v)
