-- An accepted trial leaves in newz what the next opening would make: the residuals of the weights that it took. Assumes nothing.
use Prim.Native.Nat.{ℕ}
use mathlib.Core.Path.{◌≡◌, refl, sym}
use mathlib.Core.Bool.{true, false, true≢false}
use mathlib.Core.List.{List}
use lib.Ieee.{Float, lt}
use Rattle.arrays.specs.Sums.{plus0}
use Rattle.pause.specs.Progress.{Always, Any}
use Rattle.pause.specs.Parts.{Counts, Tried, accept, halve}
use Rattle.pause.specs.Paused.{State, data_of, step}
use Rattle.pause.proofs.Steps.{by-test}
use Rattle.pause.proofs.Cases.{Cases, step-cases}
use Rattle.settings.specs.declared.Terms.{Terms}
use Rattle.layout.specs.declared.Sizes.{Sizes}
use Rattle.layout.specs.Store.{upd}
use Rattle.layout.specs.Slots.{Store, ◌⟨◌≔◌⟩}
use Rattle.design_products.specs.Mode.{matvec_of}
use Rattle.line_search.specs.Search.{decreases}
use Rattle.lasso_optimizer.specs.declared.Scalars.{Scalars}
use Rattle.lasso_optimizer.specs.Data.{Data, held, store_of}
use Rattle.lasso_optimizer.specs.Trial.{taken_store, decide_by, newz_store, try_by, tries}
use Rattle.lasso_optimizer.specs.Fit.{parts}
use Rattle.duality.specs.Gap.{Known}
use Rattle.records.specs.declared.Paused.{Paused}
use Rattle.records.specs.declared.Stage.{Stage}
use Rattle.records.specs.declared.Stage.TheVariants.{Opening, Solving, Searching, Ended}
use Rattle.records.specs.Record.{counts_of, paused_of, state_of, state_at}
use Rattle.steps.specs.Known.{KnownAt, searched_of}

module _ (sh : Sizes) (tm : Terms) (m : List Float) where
  -- the product reads none of the vectors that are taken
  taken-known : (v : Store) → Known sh tm m true (taken_store (newz_store sh tm m v))
  unfolding Known taken_store newz_store matvec_of ◌⟨◌≔◌⟩ upd
  taken-known v q = refl

  abbrev AcceptedKnown : Tried Data → Type 0
  AcceptedKnown (accept d) = Known sh tm m true (store_of d)
  AcceptedKnown (halve d) = Unit {0}

  -- by a trial's two tests: of the decrease, and before it of the bounds
  decide-known : (a : Scalars) (newphi : Float) (v : Store) → AcceptedKnown (decide_by a newphi (newz_store sh tm m v))
  unfolding decide_by
  decide-known a newphi v = by-test AcceptedKnown (decreases newphi a.phi a.s a.gdx) _ _ (λ q. taken-known v) (λ q. tt)

  try-known : (a : Scalars) (largest : Float) (v : Store) → AcceptedKnown (try_by sh tm m a largest v)
  unfolding try_by
  try-known a largest v = by-test AcceptedKnown (lt largest plus0) _ _ (λ q. decide-known a _ v) (λ q. tt)

  tries-known : (d : Data) → AcceptedKnown (tries sh tm m d)
  unfolding tries
  tries-known (held a v) = try-known a _ _

  accepted-known : (d t : Data) → tries sh tm m d ≡ accept t → Known sh tm m true (store_of t)
  accepted-known d t q = rw q at (tries-known d)

  module _ (tol : Float) (M : ℕ) where
    -- of the state that a step of stage g goes on to
    abbrev pub KnownAfter : Stage → State Data → Type 0
    KnownAfter g x = KnownAt (paused_of x).stage sh tm m (searched_of g) (store_of (data_of x))

    known-cases : (g : Stage) (r : ℕ) (c : Counts) (d : Data) → Cases (parts sh tm tol m) M (KnownAfter g) Any (state_at g r c d)
    unfolding KnownAt paused_of data_of parts
    known-cases Opening r c d = record { on-ready = λ t q. tt; on-done = λ t q. tt; on-fails = λ x t q. tt }
    known-cases (Solving k) r c d = record { on-more = λ t q l. tt; on-last = λ t q l. tt; on-stop = λ t q. tt }
    known-cases (Searching j) r c d =
        record { on-accept = λ t q l. accepted-known d t q; on-limit = λ t q l. tt; on-halve = λ t q l. tt; on-spent = λ t q l. tt }
    known-cases Ended r c d = record { on-ready = λ t q. tt; on-done = λ t q. tt; on-fails = λ x t q. tt }

    pub step-known : (a : Paused) (v : Store) → Always (KnownAfter a.stage) Any (step (parts sh tm tol m) M (state_of a v))
    unfolding state_of
    step-known a v =
        step-cases (parts sh tm tol m) M (KnownAfter a.stage) Any (state_of a v) (known-cases a.stage a.round (counts_of a.counts) (held a.scalars v))

  -- a record that comes from outside is not trusted
  pub unknown : (g : Stage) (v : Store) → KnownAt g sh tm m false v
  unfolding KnownAt Known
  unknown Opening v = λ q. absurd (true≢false (sym q))
  unknown (Solving k) v = tt
  unknown (Searching j) v = tt
  unknown Ended v = tt
