-- The parts of a fit, the fit as nested loops, and how the parts' answers are told by the code. Definitions only.
use Rattle.std.specs.Prelude.{◌≡◌, false, List, ℕ, Float}
use Rattle.std.specs.Float.{inf}
use Rattle.arrays.specs.Sums.{plus0}
use Rattle.settings.specs.declared.Terms.{Terms}
use Rattle.layout.specs.declared.Sizes.{Sizes}
use Rattle.layout.specs.Slots.{Store, Has}
use Rattle.newton.specs.Newton.{start_t}
use Rattle.refusal.specs.declared.Failure.{Failure}
use Rattle.refusal.specs.declared.Failure.TheVariants.{Search}
use Rattle.pause.specs.Parts.{Opened, ready, done, fails, Turned, more, stop, Tried, accept, halve, Parts, End}
use Rattle.pause.specs.Unbroken.{unbroken}
use Rattle.lasso_optimizer.specs.declared.Scalars.{Scalars}
use Rattle.lasso_optimizer.specs.declared.Opened.{Opened as OpenedE}
use Rattle.lasso_optimizer.specs.declared.Opened.TheVariants.{Ready, Done, Failed}
use Rattle.lasso_optimizer.specs.declared.Turned.{Turned as TurnedE}
use Rattle.lasso_optimizer.specs.declared.Turned.TheVariants.{More, Stop}
use Rattle.lasso_optimizer.specs.declared.Tried.{Tried as TriedE}
use Rattle.lasso_optimizer.specs.declared.Tried.TheVariants.{Accept, Halve}
use Rattle.lasso_optimizer.specs.Data.{Data, held, scalars_of, store_of}
use Rattle.lasso_optimizer.specs.Opening.{opens}
use Rattle.lasso_optimizer.specs.Solving.{turns, aim}
use Rattle.lasso_optimizer.specs.Trial.{tries}

-- with a solver limit of 5,000, counted from 1, and 100 trials
unfoldable pub parts : Sizes → Terms → Float → List Float → Parts Failure Data
parts sh tm tol m = record {
  opens = opens sh tm m tol;
  turns = turns sh;
  aim = aim sh tm;
  tries = tries sh tm m;
  solves = 4999;
  trials = 100;
  unaccepted = Search;
}

-- the scalars of a fresh fit
unfoldable pub fresh : ℕ → Float → Scalars
fresh p lambda = record {
  t = start_t p lambda;
  s = inf false;
  dual = plus0;
  pcgtol = plus0;
  bnrm = plus0;
  bkden = plus0;
  error = plus0;
  phi = plus0;
  gdx = plus0;
  missed = false;
}

-- the unbroken fit of at most M rounds, from the vectors v
unfoldable pub optimized : Sizes → Terms → Float → List Float → ℕ → Store → End Failure Data
optimized sh tm tol m M v = unbroken (parts sh tm tol m) M (held (fresh sh.p tm.lambda) v)

-- ---- the parts' answers as the code gives them, and the memory left beside them

unfoldable pub opened_res : Opened Failure Data → OpenedE
opened_res (ready d) = Ready (scalars_of d)
opened_res (done d) = Done
opened_res (fails x d) = Failed x

unfoldable pub opened_data : Opened Failure Data → Data
opened_data (ready d) = d
opened_data (done d) = d
opened_data (fails x d) = d

unfoldable pub turned_res : Turned Data → TurnedE
turned_res (more d) = More (scalars_of d)
turned_res (stop d) = Stop (scalars_of d)

unfoldable pub turned_data : Turned Data → Data
turned_data (more d) = d
turned_data (stop d) = d

unfoldable pub tried_res : Tried Data → TriedE
tried_res (accept d) = Accept (scalars_of d)
tried_res (halve d) = Halve (scalars_of d)

unfoldable pub tried_data : Tried Data → Data
tried_data (accept d) = d
tried_data (halve d) = d

-- what the code answers and leaves where a part finds o; e is the excess of the scratch
pub record DidOpen (sh : Sizes) (e : List Float) (o : Opened Failure Data) (a : OpenedE) (m : List Float) : Type 0 where
  pub is : a ≡ opened_res o
  pub left : Has sh e (store_of (opened_data o)) m

pub record DidTurn (sh : Sizes) (e : List Float) (o : Turned Data) (a : TurnedE) (m : List Float) : Type 0 where
  pub is : a ≡ turned_res o
  pub left : Has sh e (store_of (turned_data o)) m

pub record DidTry (sh : Sizes) (e : List Float) (o : Tried Data) (a : TriedE) (m : List Float) : Type 0 where
  pub is : a ≡ tried_res o
  pub left : Has sh e (store_of (tried_data o)) m
