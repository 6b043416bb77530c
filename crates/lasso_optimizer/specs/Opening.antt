-- A round's opening, in lasso_optimizer.rs's order: the gap part, the Newton part, the solver's tolerance and its first lines. Definitions only.
use Rattle.std.specs.Prelude.{not, ◌&&◌, cond, List, ℕ, ◌*◌, eqb, Float}
use Rattle.std.specs.Float.Ieee.{neg, lt, le}
use Rattle.numbers.specs.Ops.{◌⊕◌, ◌⊖◌, ◌⊗◌, ◌⊘◌, f64}
use Rattle.numbers.specs.Order.{maximum_of}
use Rattle.numbers.specs.Constants.{two}
use Rattle.arrays.specs.Sums.{dot_of, norm1_of, norm2_of, norm_inf_of, plus0}
use Rattle.arrays.specs.Vectors.{map_of, zip_of}
use Rattle.settings.specs.declared.Terms.{Terms}
use Rattle.layout.specs.declared.Sizes.{Sizes}
use Rattle.layout.specs.Slots.{Store, ◌⟨◌≔◌⟩}
use Rattle.layout.specs.Slots.{Slot.W, Slot.U, Slot.Q1, Slot.Q2, Slot.D1, Slot.D2, Slot.PRB, Slot.PRS, Slot.GRAD, Slot.XNU, Slot.Y, Slot.Z, Slot.NU}
use Rattle.inner_solver.specs.Inner.{begin_store, bnrm_of}
use Rattle.design_products.specs.Mode.{matvec_of, transposed_of}
use Rattle.newton.specs.Newton.{next_t, over_sum, over_difference, sum_of_squares, difference_of_squares, g1_of, grad_of, prb_at, prs_of, tolerance}
use Rattle.refusal.specs.declared.Failure.{Failure}
use Rattle.refusal.specs.declared.Failure.TheVariants.{Tolerance}
use Rattle.pause.specs.Parts.{Opened, ready, done, fails}
use Rattle.lasso_optimizer.specs.declared.Scalars.{Scalars}
use Rattle.lasso_optimizer.specs.Data.{Data, held, opened}

-- -0.25: the Rust's second `gamma`, which has nothing to do with the one of the settings
abbrev pub minus_quarter : Float
minus_quarter = neg (f64 0x3fd0_0000_0000_0000)

module _ (sh : Sizes) where
  -- dobj, of the vectors that the gap part leaves
  unfoldable pub dual_of : Float → Store → Float
  dual_of dual v = maximum_of dual (minus_quarter ⊗ dot_of sh.k (v NU) (v NU) ⊖ dot_of sh.k (v NU) (v Y))

  -- the Newton terms: q1, q2, d1 and d2; then prb and prs
  unfoldable pub barrier_store : Float → Store → Store
  barrier_store t v =
      v
      ⟨ Q1 ≔ (λ u. zip_of over_sum sh.p (u U) (u W)) ⟩
      ⟨ Q2 ≔ (λ u. zip_of over_difference sh.p (u U) (u W)) ⟩
      ⟨ D1 ≔ (λ u. zip_of (sum_of_squares t) sh.p (u Q1) (u Q2)) ⟩
      ⟨ D2 ≔ (λ u. zip_of (difference_of_squares t) sh.p (u Q1) (u Q2)) ⟩

  unfoldable pub preconditioner_store : Store → Store
  preconditioner_store v =
      v
      ⟨ PRB ≔ (λ u. map_of prb_at sh.p (u D1)) ⟩
      ⟨ PRS ≔ (λ u. prs_of sh.p (u PRB) (u D1) (u D2)) ⟩

  -- pcgtol, in round r
  unfoldable pub pcgtol_of : ℕ → Scalars → Float → Store → Float
  pcgtol_of r a gap v = tolerance (not (eqb r 0) && not a.missed) gap (norm2_of (2 * sh.p) (v GRAD))

  -- the solver's tolerance `pcg` is tested, and the solver begins
  unfoldable pub ready_by : Scalars → Float → Float → Float → Store → Opened Failure Data
  ready_by a t dual pcg v =
      cond (le pcg plus0) (fails Tolerance (held (opened a t dual pcg a.bnrm) v)) (ready (held (opened a t dual pcg (bnrm_of sh v)) (begin_store sh v)))

  module _ (tm : Terms) where
    -- nu made smaller where the largest of |xnu|, `most`, is above lambda
    unfoldable pub shrunk_store : Float → Store → Store
    shrunk_store most v =
        cond (lt tm.lambda most) (v ⟨ NU ≔ (λ u. map_of (λ (a : Float). a ⊗ (tm.lambda ⊘ most)) sh.k (u NU)) ⟩) v

    -- pobj and the gap
    unfoldable pub primal_of : Store → Float
    primal_of v = dot_of sh.k (v Z) (v Z) ⊕ tm.lambda ⊗ norm1_of sh.p (v W)

    unfoldable pub gap_of : Float → Store → Float
    gap_of dual v = primal_of v ⊖ dual_of dual v

    module _ (m : List Float) where
      -- the gap part: z, nu and xnu
      unfoldable pub residual_store : Store → Store
      residual_store v =
          v
          ⟨ Z ≔ (λ u. matvec_of sh tm m u (u W)) ⟩
          ⟨ Z ≔ (λ u. zip_of (λ (a b : Float). a ⊖ b) sh.k (u Z) (u Y)) ⟩
          ⟨ NU ≔ (λ u. map_of (λ (a : Float). two ⊗ a) sh.k (u Z)) ⟩
          ⟨ XNU ≔ (λ u. transposed_of sh tm m u (u NU)) ⟩

      -- then nu made smaller
      unfoldable pub gap_store : Store → Store
      gap_store v = shrunk_store (norm_inf_of sh.p (residual_store v XNU)) (residual_store v)

      -- the Newton part; gradphi and then g1 stand in the place of xnu
      unfoldable pub gradient_store : Float → Store → Store
      gradient_store t v =
          v
          ⟨ XNU ≔ (λ u. transposed_of sh tm m u (u Z)) ⟩
          ⟨ XNU ≔ (λ u. g1_of sh.p t (u XNU) (u Q1) (u Q2)) ⟩
          ⟨ GRAD ≔ (λ u. grad_of sh.p tm.lambda t (u XNU) (u Q1) (u Q2)) ⟩

      -- all Newton terms, the preconditioner last
      unfoldable pub newton_store : Float → Store → Store
      newton_store t v = preconditioner_store (gradient_store t (barrier_store t v))

      module _ (tol : Float) where
        -- the gap and the dual value are tested; then t, the Newton part, and the solver
        unfoldable pub open_by : ℕ → Scalars → Float → Float → Store → Opened Failure Data
        open_by r a gap dual v =
            let t = next_t sh.p a.s gap a.t in
            let u = newton_store t v in
            cond (lt (gap ⊘ dual) tol) (done (held (opened a a.t dual a.pcgtol a.bnrm) v)) (ready_by a t dual (pcgtol_of r a gap u) u)

        -- an opening: the gap part comes first, and both tests read what it leaves
        unfoldable pub opens : ℕ → Data → Opened Failure Data
        opens r (held a v) = open_by r a (gap_of a.dual (gap_store v)) (dual_of a.dual (gap_store v)) (gap_store v)
