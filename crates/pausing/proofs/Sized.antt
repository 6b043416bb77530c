-- The parts keep the length of every vector. Assumes nothing.
use mathlib.Core.Path.{◌≡◌}
use mathlib.Core.Bool.{Bool}
use mathlib.Core.List.{List}
use Prim.Native.Nat.{ℕ, ◌+◌, ◌*◌}
use lib.Dec.{eqb}
use lib.ListN.{length}
use lib.Ieee.{Float, lt, le}
use Rattle.numbers.specs.Ops.{◌⊘◌}
use Rattle.arrays.specs.Sums.{plus0, norm_inf_of}
use Rattle.arrays.proofs.Lengths.{length-map, length-zip}
use Rattle.matrices.proofs.Lengths.{length-rows}
use Rattle.settings.specs.declared.Terms.{Terms}
use Rattle.layout.specs.declared.Sizes.{Sizes}
use Rattle.layout.specs.Slots.{Slot, Store, size}
use Rattle.layout.proofs.Slots.{upd-sized}
use Rattle.layout.specs.Slots.{Slot.W, Slot.U, Slot.NEWW, Slot.NEWU, Slot.F, Slot.NEWF, Slot.Q1, Slot.Q2, Slot.D1, Slot.D2, Slot.PRB, Slot.PRS, Slot.DXU, Slot.GRAD}
use Rattle.layout.specs.Slots.{Slot.R, Slot.RR, Slot.ZS, Slot.ZZ, Slot.PS, Slot.PP, Slot.XNU, Slot.ATAX, Slot.Z, Slot.NU, Slot.NEWZ}
use Rattle.bg_solver.specs.Solver.{Work, begun, turned}
use Rattle.bg_solver.proofs.Lengths.{length-aimed}
use Rattle.inner_solver.specs.Inner.{system_of, work_of, with_work, begin_store, round_of, turn_store}
use Rattle.inner_solver.proofs.Lengths.{length-solved, length-times}
use Rattle.design_products.proofs.Lengths.{length-matvec-of, length-transposed}
use Rattle.newton.specs.Newton.{next_t}
use Rattle.newton.proofs.Lengths.{length-g1, length-grad, length-prs}
use Rattle.line_search.specs.Search.{largest_of, decreases}
use Rattle.line_search.proofs.Lists.{length-faces}
use Rattle.pause.specs.Invariant.{OfOpened, OfTurned, OfTried, Keeps}
use Rattle.lasso_optimizer.specs.declared.Scalars.{Scalars}
use Rattle.lasso_optimizer.specs.Data.{Data, held}
use Rattle.lasso_optimizer.specs.Opening.{residual_store, shrunk_store, gap_store, gap_of, dual_of, barrier_store, gradient_store, preconditioner_store, newton_store}
use Rattle.lasso_optimizer.specs.Opening.{pcgtol_of, ready_by, open_by, opens}
use Rattle.lasso_optimizer.specs.Solving.{turn_to, turns, aim}
use Rattle.lasso_optimizer.specs.Trial.{moved_store, newz_store, newphi_of, taken_store, decide_by, try_by, tries}
use Rattle.lasso_optimizer.specs.Fit.{parts}
use Rattle.pausing.specs.Kept.{Proper, SizedData}
use Rattle.pausing.proofs.Keeps.{chosen}

-- each of the solver's vectors has n elements
record Long (n : ℕ) (w : Work) : Type 0 where
  pub of-x : length w.x ≡ n
  pub of-r : length w.r ≡ n
  pub of-rr : length w.rr ≡ n
  pub of-z : length w.z ≡ n
  pub of-zz : length w.zz ≡ n
  pub of-p : length w.p ≡ n
  pub of-pp : length w.pp ≡ n

module _ (sh : Sizes) where
  abbrev Sized : Store → Type 0
  Sized v = (s : Slot) → length (v s) ≡ size sh s

  work-sized : (last : List Float) (w : Work) (v : Store) → Long (2 * sh.p) w → Sized v → Sized (with_work sh last w v)
  unfolding with_work
  work-sized last w v k z₀ =
      let z₁ = upd-sized sh v DXU (λ u. w.x) z₀ k.of-x in
      let z₂ = upd-sized sh _ R (λ u. w.r) z₁ k.of-r in
      let z₃ = upd-sized sh _ RR (λ u. w.rr) z₂ k.of-rr in
      let z₄ = upd-sized sh _ ZS (λ u. w.z) z₃ k.of-z in
      let z₅ = upd-sized sh _ ZZ (λ u. w.zz) z₄ k.of-zz in
      let z₆ = upd-sized sh _ PS (λ u. w.p) z₅ k.of-p in
      let z₇ = upd-sized sh _ PP (λ u. w.pp) z₆ k.of-pp in
      upd-sized sh _ ATAX _ z₇ (length-rows _ _ _ _)

  begin-sized : (v : Store) → Sized v → Sized (begin_store sh v)
  unfolding begin_store begun system_of
  begin-sized v z =
      work-sized (v DXU) (begun (system_of sh v) (v GRAD) (work_of v)) v
      (record {
        of-x = z DXU;
        of-r = length-zip _ _ _ _;
        of-rr = length-zip _ _ _ _;
        of-z = length-solved _ _ _ _ _ _;
        of-zz = z ZZ;
        of-p = z PS;
        of-pp = z PP;
      })
      z

  turn-long : (first : Bool) (bkden : Float) (v : Store) → Sized v → Long (2 * sh.p) (round_of sh first bkden v).work
  unfolding round_of turned system_of
  turn-long first bkden v z = record {
    of-x = length-zip _ _ _ _;
    of-r = length-zip _ _ _ _;
    of-rr = length-zip _ _ _ _;
    of-z = length-solved _ _ _ _ _ _;
    of-zz = length-times _ _ _ _ _;
    of-p = length-aimed first _ _ _ _ (z ZS);
    of-pp = length-aimed first _ _ _ _ (length-solved _ _ _ _ _ _);
  }

  turn-sized : (first : Bool) (bkden : Float) (v : Store) → Sized v → Sized (turn_store sh first bkden v)
  unfolding turn_store
  turn-sized first bkden v z = work-sized _ (round_of sh first bkden v).work v (turn-long first bkden v z) z

  barrier-sized : (t : Float) (v : Store) → Sized v → Sized (barrier_store sh t v)
  unfolding barrier_store
  barrier-sized t v z =
      upd-sized sh _ D2 _
      (upd-sized sh _ D1 _ (upd-sized sh _ Q2 _ (upd-sized sh _ Q1 _ z (length-zip _ _ _ _)) (length-zip _ _ _ _)) (length-zip _ _ _ _))
      (length-zip _ _ _ _)

  preconditioner-sized : (v : Store) → Sized v → Sized (preconditioner_store sh v)
  unfolding preconditioner_store
  preconditioner-sized v z = upd-sized sh _ PRS _ (upd-sized sh _ PRB _ z (length-map _ _ _)) (length-prs _ _ _ _)

  moved-sized : (s : Float) (v : Store) → Sized v → Sized (moved_store sh s v)
  unfolding moved_store
  moved-sized s v z =
      upd-sized sh _ NEWF _ (upd-sized sh _ NEWU _ (upd-sized sh _ NEWW _ z (length-zip _ _ _ _)) (length-zip _ _ _ _)) (length-faces _ _ _)

  taken-sized : (v : Store) → Sized v → Sized (taken_store v)
  unfolding taken_store
  taken-sized v z =
      let z₁ = upd-sized sh v W (λ u. u NEWW) z (z NEWW) in
      let z₂ = upd-sized sh _ U (λ u. u NEWU) z₁ (z₁ NEWU) in
      upd-sized sh _ F (λ u. u NEWF) z₂ (z₂ NEWF)

  turn-to : (n : ℕ) (a : Scalars) (error bkden : Float) (v : Store) → Sized v → OfTurned (SizedData sh n) (turn_to a error bkden v)
  unfolding turn_to
  turn-to n a error bkden v z = chosen (OfTurned (SizedData sh n)) (le error a.pcgtol) z z

  turns-sized : (n k : ℕ) (d : Data) → SizedData sh n d → OfTurned (SizedData sh n) (turns sh k d)
  unfolding turns
  turns-sized n k (held a v) z = turn-to n a _ _ (turn_store sh (eqb k 1) a.bkden v) (turn-sized (eqb k 1) a.bkden v z)

  module _ (tm : Terms) where
    aim-sized : (n : ℕ) (d : Data) → SizedData sh n d → SizedData sh n (aim sh tm d)
    unfolding aim
    aim-sized n (held a v) z = z

    shrunk-sized : (most : Float) (v : Store) → Sized v → Sized (shrunk_store sh tm most v)
    unfolding shrunk_store
    shrunk-sized most v z = chosen Sized (lt tm.lambda most) (upd-sized sh v NU _ z (length-map _ _ _)) z

    module _ (m : List Float) where
      gradient-sized : (t : Float) (v : Store) → Sized v → Sized (gradient_store sh tm m t v)
      unfolding gradient_store
      gradient-sized t v z =
          upd-sized sh _ GRAD _ (upd-sized sh _ XNU _ (upd-sized sh _ XNU _ z (length-transposed _ _ _ _ _)) (length-g1 _ _ _ _ _)) (length-grad _ _ _ _ _ _)

      newton-sized : (t : Float) (v : Store) → Sized v → Sized (newton_store sh tm m t v)
      unfolding newton_store
      newton-sized t v z = preconditioner-sized _ (gradient-sized t _ (barrier-sized t v z))

      module _ (k : Proper sh) where
        residual-sized : (v : Store) → Sized v → Sized (residual_store sh tm m v)
        unfolding residual_store
        residual-sized v z =
            let z₁ = upd-sized sh v Z _ z (length-matvec-of sh k.all k.stored tm m v (v W)) in
            upd-sized sh _ XNU _ (upd-sized sh _ NU _ (upd-sized sh _ Z _ z₁ (length-zip _ _ _ _)) (length-map _ _ _)) (length-transposed _ _ _ _ _)

        gap-sized : (v : Store) → Sized v → Sized (gap_store sh tm m v)
        unfolding gap_store
        gap-sized v z = shrunk-sized (norm_inf_of sh.p (residual_store sh tm m v XNU)) (residual_store sh tm m v) (residual-sized v z)

        newz-sized : (v : Store) → Sized v → Sized (newz_store sh tm m v)
        unfolding newz_store
        newz-sized v z =
            upd-sized sh _ NEWZ _ (upd-sized sh v NEWZ _ z (length-matvec-of sh k.all k.stored tm m v (v NEWW))) (length-zip _ _ _ _)

        module _ (n : ℕ) (a : Scalars) where
          ready-sized : (t dual pcg : Float) (v : Store) → Sized v → OfOpened (SizedData sh (n + 1)) (ready_by sh a t dual pcg v)
          unfolding ready_by
          ready-sized t dual pcg v z = chosen (OfOpened (SizedData sh (n + 1))) (le pcg plus0) z (begin-sized v z)

          open-sized : (tol : Float) (r : ℕ) (gap dual : Float) (v : Store) → Sized v → OfOpened (SizedData sh (n + 1)) (open_by sh tm m tol r a gap dual v)
          unfolding open_by
          open-sized tol r gap dual v z =
              let t = next_t sh.p a.s gap a.t in
              let u = newton_store sh tm m t v in
              chosen (OfOpened (SizedData sh (n + 1))) (lt (gap ⊘ dual) tol) z (ready-sized t dual (pcgtol_of sh r a gap u) u (newton-sized t v z))

          decide-sized : (newphi : Float) (v : Store) → Sized v → OfTried (SizedData sh n) (decide_by a newphi v)
          unfolding decide_by
          decide-sized newphi v z = chosen (OfTried (SizedData sh n)) (decreases newphi a.phi a.s a.gdx) (taken-sized v z) z

          try-sized : (largest : Float) (v : Store) → Sized v → OfTried (SizedData sh n) (try_by sh tm m a largest v)
          unfolding try_by
          try-sized largest v z =
              let u = newz_store sh tm m v in
              chosen (OfTried (SizedData sh n)) (lt largest plus0) (decide-sized (newphi_of sh tm a.t u) u (newz-sized v z)) z

        opens-sized : (tol : Float) (n : ℕ) (d : Data) → SizedData sh n d → OfOpened (SizedData sh (n + 1)) (opens sh tm m tol n d)
        unfolding opens
        opens-sized tol n (held a v) z =
            let u = gap_store sh tm m v in
            open-sized n a tol n (gap_of sh tm a.dual u) (dual_of sh a.dual u) u (gap-sized v z)

        tries-sized : (n : ℕ) (d : Data) → SizedData sh n d → OfTried (SizedData sh n) (tries sh tm m d)
        unfolding tries
        tries-sized n (held a v) z = try-sized n a (largest_of (2 * sh.p) (moved_store sh a.s v NEWF)) (moved_store sh a.s v) (moved-sized a.s v z)

pub sizes-keep : (sh : Sizes) (tm : Terms) (tol : Float) (m : List Float) (M : ℕ) → Proper sh → Keeps (SizedData sh) (parts sh tm tol m) M
unfolding parts
sizes-keep sh tm tol m M k = record {
  by-opens = λ n d l z. opens-sized sh tm m k tol n d z;
  by-turns = turns-sized sh;
  by-aim = aim-sized sh tm;
  by-tries = tries-sized sh tm m k;
}
