-- The parts keep every scalar a value of binary64: each is a rounded operation's result, a constant, one of two such, or an earlier one. Assumes nothing.
use mathlib.Core.Bool.{Bool}
use mathlib.Core.List.{List}
use Prim.Native.Nat.{ℕ, ◌+◌, ◌*◌}
use lib.Dec.{eqb}
use lib.Ieee.{Float, binary64, lt, le}
use lib.Ieee.Bits.{of_bits-fits}
use lib.Ieee.Fits.{cond-fits, inf-fits, sub-fits, mul-fits, div-fits}
use Rattle.numbers.specs.Ops.{◌⊘◌}
use Rattle.numbers.specs.Constants.{half}
use Rattle.arrays.specs.Sums.{plus0}
use Rattle.settings.specs.declared.Terms.{Terms}
use Rattle.layout.specs.declared.Sizes.{Sizes}
use Rattle.layout.specs.Slots.{Store}
use Rattle.bg_solver.specs.Solver.{turned, error_of}
use Rattle.inner_solver.specs.Inner.{bnrm_of, round_of, turn_store, turn_error}
use Rattle.newton.specs.Newton.{start_t, next_t, tolerance}
use Rattle.line_search.specs.Search.{largest_of, phi_of, decreases}
use Rattle.pause.specs.Invariant.{OfOpened, OfTurned, OfTried, Keeps}
use Rattle.lasso_optimizer.specs.declared.Scalars.{Scalars}
use Rattle.lasso_optimizer.specs.Data.{Data, held, opened, with_round}
use Rattle.lasso_optimizer.specs.Opening.{gap_store, gap_of, dual_of, newton_store, pcgtol_of, ready_by, open_by, opens}
use Rattle.lasso_optimizer.specs.Solving.{turn_to, turns, gdx_of, phi_at, aim_by, aim}
use Rattle.lasso_optimizer.specs.Trial.{halved, moved_store, newz_store, newphi_of, decide_by, try_by, tries}
use Rattle.lasso_optimizer.specs.Fit.{parts, fresh}
use Rattle.pausing.proofs.Keeps.{chosen}
use Rattle.doubles.specs.Fit.{Double, Fit, FitData}
use Rattle.doubles.proofs.Values.{maximum-double, minimum-double, dot-double, product-double, norm-double}

-- ---- the scalars that each part sets

opened-fit : (a : Scalars) (t dual pcgtol bnrm : Float) → Fit a → Double t → Double dual → Double pcgtol → Double bnrm → Fit (opened a t dual pcgtol bnrm)
opened-fit a t dual pcgtol bnrm h ht hd hl hb = record {
  t = ht;
  s = h.s;
  dual = hd;
  pcgtol = hl;
  bnrm = hb;
  bkden = h.bkden;
  error = h.error;
  phi = h.phi;
  gdx = h.gdx;
}

with-round-fit : (a : Scalars) (error bkden : Float) → Fit a → Double error → Double bkden → Fit (with_round a error bkden)
with-round-fit a error bkden h he hk = record {
  t = h.t;
  s = h.s;
  dual = h.dual;
  pcgtol = h.pcgtol;
  bnrm = h.bnrm;
  bkden = hk;
  error = he;
  phi = h.phi;
  gdx = h.gdx;
}

halved-fit : (a : Scalars) → Fit a → Fit (halved a)
halved-fit a h = record {
  t = h.t;
  s = mul-fits binary64 _ _;
  dual = h.dual;
  pcgtol = h.pcgtol;
  bnrm = h.bnrm;
  bkden = h.bkden;
  error = h.error;
  phi = h.phi;
  gdx = h.gdx;
}

next-double : (p : ℕ) (s gap t : Float) → Double t → Double (next_t p s gap t)
unfolding next_t
next-double p s gap t h =
    cond-fits binary64 (le half s) _ t (maximum-double t _ h (minimum-double _ _ (div-fits binary64 _ _) (mul-fits binary64 _ _))) h

tolerance-double : (later : Bool) (gap normg : Float) → Double (tolerance later gap normg)
unfolding tolerance
tolerance-double later gap normg =
    cond-fits binary64 later _ _ (mul-fits binary64 _ _) (minimum-double _ _ (of_bits-fits binary64 _) (div-fits binary64 _ _))

-- A FRESH FIT'S scalars
pub fresh-fit : (p : ℕ) (lambda : Float) → Fit (fresh p lambda)
unfolding fresh start_t
fresh-fit p lambda = record {
  t = minimum-double _ _ (maximum-double _ _ (of_bits-fits binary64 _) (div-fits binary64 _ _)) (div-fits binary64 _ _);
  s = inf-fits binary64 _;
  dual = of_bits-fits binary64 _;
  pcgtol = of_bits-fits binary64 _;
  bnrm = of_bits-fits binary64 _;
  bkden = of_bits-fits binary64 _;
  error = of_bits-fits binary64 _;
  phi = of_bits-fits binary64 _;
  gdx = of_bits-fits binary64 _;
}

module _ (sh : Sizes) where
  dual-double : (dual : Float) (v : Store) → Double dual → Double (dual_of sh dual v)
  unfolding dual_of
  dual-double dual v h = maximum-double dual _ h (sub-fits binary64 _ _)

  pcgtol-double : (r : ℕ) (a : Scalars) (gap : Float) (v : Store) → Double (pcgtol_of sh r a gap v)
  unfolding pcgtol_of
  pcgtol-double r a gap v = tolerance-double _ gap _

  bnrm-double : (v : Store) → Double (bnrm_of sh v)
  unfolding bnrm_of
  bnrm-double v = norm-double _ _

  error-double : (first : Bool) (bkden bnrm : Float) (v : Store) → Double (turn_error sh first bkden bnrm v)
  unfolding turn_error error_of
  error-double first bkden bnrm v = div-fits binary64 _ _

  bkden-double : (first : Bool) (bkden : Float) (v : Store) → Double (round_of sh first bkden v).bkden
  unfolding round_of turned
  bkden-double first bkden v = product-double _ _ _

  gdx-double : (v : Store) → Double (gdx_of sh v)
  unfolding gdx_of
  gdx-double v = dot-double _ _ _

  turn-to : (n : ℕ) (a : Scalars) (error bkden : Float) (v : Store) → Fit (with_round a error bkden) → OfTurned (FitData n) (turn_to a error bkden v)
  unfolding turn_to
  turn-to n a error bkden v h = chosen (OfTurned (FitData n)) (le error a.pcgtol) h h

  turns_fit : (n k : ℕ) (d : Data) → FitData n d → OfTurned (FitData n) (turns sh k d)
  unfolding turns
  turns_fit n k (held a v) h =
      turn-to n a _ _ (turn_store sh (eqb k 1) a.bkden v)
      (with-round-fit a _ _ h (error-double (eqb k 1) a.bkden a.bnrm v) (bkden-double (eqb k 1) a.bkden v))

  module _ (tm : Terms) where
    phi-double : (t : Float) (v : Store) → Double (phi_at sh tm t v)
    unfolding phi_at phi_of
    phi-double t v = sub-fits binary64 _ _

    aim-fit : (n : ℕ) (d : Data) → FitData n d → FitData n (aim sh tm d)
    unfolding aim aim_by
    aim-fit n (held a v) h = record {
      t = h.t;
      s = of_bits-fits binary64 _;
      dual = h.dual;
      pcgtol = h.pcgtol;
      bnrm = h.bnrm;
      bkden = h.bkden;
      error = h.error;
      phi = phi-double a.t v;
      gdx = gdx-double v;
    }

    module _ (m : List Float) (n : ℕ) (a : Scalars) (h : Fit a) where
      ready-fit : (t dual pcg : Float) (v : Store) → Double t → Double dual → Double pcg → OfOpened (FitData (n + 1)) (ready_by sh a t dual pcg v)
      unfolding ready_by
      ready-fit t dual pcg v ht hd hp =
          chosen (OfOpened (FitData (n + 1))) (le pcg plus0) (opened-fit a t dual pcg a.bnrm h ht hd hp h.bnrm)
          (opened-fit a t dual pcg (bnrm_of sh v) h ht hd hp (bnrm-double v))

      open-fit : (tol : Float) (r : ℕ) (gap dual : Float) (v : Store) → Double dual → OfOpened (FitData (n + 1)) (open_by sh tm m tol r a gap dual v)
      unfolding open_by
      open-fit tol r gap dual v hd =
          let t = next_t sh.p a.s gap a.t in
          let u = newton_store sh tm m t v in
          chosen (OfOpened (FitData (n + 1))) (lt (gap ⊘ dual) tol) (opened-fit a a.t dual a.pcgtol a.bnrm h h.t hd h.pcgtol h.bnrm)
          (ready-fit t dual (pcgtol_of sh r a gap u) u (next-double sh.p a.s gap a.t h.t) hd (pcgtol-double r a gap u))

      decide-fit : (newphi : Float) (v : Store) → OfTried (FitData n) (decide_by a newphi v)
      unfolding decide_by
      decide-fit newphi v = chosen (OfTried (FitData n)) (decreases newphi a.phi a.s a.gdx) h (halved-fit a h)

      try-fit : (largest : Float) (v : Store) → OfTried (FitData n) (try_by sh tm m a largest v)
      unfolding try_by
      try-fit largest v =
          let u = newz_store sh tm m v in
          chosen (OfTried (FitData n)) (lt largest plus0) (decide-fit (newphi_of sh tm a.t u) u) (halved-fit a h)

    opens-fit : (m : List Float) (tol : Float) (n : ℕ) (d : Data) → FitData n d → OfOpened (FitData (n + 1)) (opens sh tm m tol n d)
    unfolding opens
    opens-fit m tol n (held a v) h =
        let u = gap_store sh tm m v in
        open-fit m n a h tol n (gap_of sh tm a.dual u) (dual_of sh a.dual u) u (dual-double a.dual u h.dual)

    tries-fit : (m : List Float) (n : ℕ) (d : Data) → FitData n d → OfTried (FitData n) (tries sh tm m d)
    unfolding tries
    tries-fit m n (held a v) h = try-fit m n a h (largest_of (2 * sh.p) _) (moved_store sh a.s v)

-- THE PARTS keep it, in a fit of any number of rounds
pub fits-keep : (sh : Sizes) (tm : Terms) (tol : Float) (m : List Float) (M : ℕ) → Keeps FitData (parts sh tm tol m) M
unfolding parts
fits-keep sh tm tol m M = record {
  by-opens = λ n d l h. opens-fit sh tm m tol n d h;
  by-turns = turns_fit sh;
  by-aim = aim-fit sh tm;
  by-tries = tries-fit sh tm m;
}
