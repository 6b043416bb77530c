-- What the functions return, over plain variables. Assumes nothing.
use mathlib.Core.Path.{◌≡◌, refl, sym, ap, ◌∙◌}
use mathlib.Core.Bool.{Bool, true, false}
use mathlib.Core.List.{List}
use Prim.Native.Nat.{ℕ, ◌*◌}
use lib.Dec.{eqb}
use lib.Ieee.{Float, lt, le}
use Rattle.numbers.specs.Constants.{one}
use Rattle.arrays.specs.Part.{part}
use Rattle.arrays.specs.Sums.{dot_of, sum_of}
use Rattle.settings.specs.declared.Terms.{Terms}
use Rattle.layout.specs.declared.Sizes.{Sizes}
use Rattle.layout.specs.declared.Places.{Places}
use Rattle.layout.specs.Slots.{Store, Laid, vars}
use Rattle.bg_solver.specs.declared.shared.Turned.{Turned as Answer}
use Rattle.bg_solver.specs.declared.shared.Turned.TheVariants.{Stop, More}
use Rattle.bg_solver.specs.Shared.{turn_by}
use Rattle.inner_solver.specs.Inner.{DidTurn as DidRound, turn_store}
use Rattle.line_search.specs.Search.{sumlogneg_of, phi_of}
use Rattle.lasso_optimizer.specs.declared.Scalars.{Scalars}
use Rattle.lasso_optimizer.specs.declared.Turned.{Turned}
use Rattle.lasso_optimizer.specs.declared.Turned.TheVariants.{More as MoreOf, Stop as StopOf}
use Rattle.lasso_optimizer.specs.Data.{held, store_of, with_round, aimed}
use Rattle.lasso_optimizer.specs.Solving.{turn_to, turns, gdx_of, phi_at, missed_by, aim_by}
use Rattle.lasso_optimizer.specs.Fit.{turned_res, turned_data, DidTurn}

-- the code's answer, from the solver's
abbrev pub told : Scalars → Answer → Turned
told a (Stop e d) = StopOf (with_round a e d)
told a (More e d) = MoreOf (with_round a e d)

module _ (a : Scalars) (err bkden : Float) (v : Store) where
  told_is : told a (turn_by a.pcgtol err bkden) ≡ turned_res (turn_to a err bkden v)
  unfolding turn_by turn_to turned_res
  told_is = go (le err a.pcgtol) refl where
    go : (b : Bool) → le err a.pcgtol ≡ b → told a (turn_by a.pcgtol err bkden) ≡ turned_res (turn_to a err bkden v)
    go true q = rw q
    go false q = rw q

  -- either way the memory is the same
  store_is : store_of (turned_data (turn_to a err bkden v)) ≡ v
  unfolding turn_to turned_data
  store_is = go (le err a.pcgtol) refl where
    go : (b : Bool) → le err a.pcgtol ≡ b → store_of (turned_data (turn_to a err bkden v)) ≡ v
    go true q = rw q
    go false q = rw q

pub did-turn : {sh : Sizes} {e : List Float} (k : ℕ) (a : Scalars) {v : Store} {t t' : Answer} {m : List Float}
    → DidRound sh e (eqb k 1) a.bkden a.bnrm a.pcgtol v t m → t ≡ t' → DidTurn sh e (turns sh k (held a v)) (told a t') m
unfolding turns
did-turn {sh} k a {v} d q = record {
  is = ap (told a) (sym q ∙ d.is) ∙ told_is a _ _ (turn_store sh (eqb k 1) a.bkden v);
  left = rw store_is d.left;
}

module _ (a : Scalars) where
  pub missed-before : a.missed ≡ true → true ≡ missed_by a
  unfolding missed_by
  missed-before h = rw h

  pub not-before : a.missed ≡ false → lt a.pcgtol a.error ≡ missed_by a
  unfolding missed_by
  not-before h = rw h

module _ {sh : Sizes} {l : Places} (at : Laid sh l) (m : List Float) (tm : Terms) where
  pub phi-is : (t : Float) {zz sumu logs r : Float} → zz ≡ dot_of sh.k (part m l.z sh.k) (part m l.z sh.k)
      → sumu ≡ sum_of sh.p (part m l.u sh.p) → logs ≡ sumlogneg_of (2 * sh.p) (part m l.f (2 * sh.p))
      → r ≡ phi_of tm.lambda t zz sumu logs → r ≡ phi_at sh tm t (vars sh m)
  unfolding phi_at
  phi-is t z u f q = rw (q, z, u, f, at.at-z, at.at-u, at.at_f)

  pub aim-is : (a : Scalars) {far : Bool} {phi gdx : Float} → far ≡ missed_by a → phi ≡ phi_at sh tm a.t (vars sh m)
      → gdx ≡ dot_of (2 * sh.p) (part m l.grad (2 * sh.p)) (part m l.dxu (2 * sh.p))
      → aimed a one phi gdx far ≡ aim_by sh tm a (vars sh m)
  unfolding aim_by gdx_of
  aim-is a f p g = rw (f, p, g, at.at-grad, at.at-dxu)
