-- A record by its stage. Assumes nothing.
use Prim.Native.Nat.{ℕ}
use mathlib.Core.Path.{◌≡◌}
use mathlib.Core.Bool.{Bool}
use mathlib.Core.List.{List}
use lib.Ieee.{Float}
use Rattle.pause.specs.Paused.{step}
use Rattle.settings.specs.declared.Terms.{Terms}
use Rattle.layout.specs.declared.Sizes.{Sizes}
use Rattle.layout.specs.Slots.{Store}
use Rattle.lasso_optimizer.specs.Data.{held}
use Rattle.lasso_optimizer.specs.Fit.{parts}
use Rattle.duality.specs.Gap.{Known}
use Rattle.records.specs.declared.Paused.{Paused}
use Rattle.records.specs.declared.Stage.{Stage}
use Rattle.records.specs.declared.Stage.TheVariants.{Opening}
use Rattle.stages.specs.declared.Stepped.{Stepped}
use Rattle.records.specs.Record.{counts_of, state_of, state_at, Sane, SaneAt}
use Rattle.stages.specs.Stage.{Did}
use Rattle.steps.specs.Known.{KnownAt}

module _ {g : Stage} (a : Paused) (q : a.stage ≡ g) where
  -- what the step of the stage did, it did to the record
  pub by-stage : (sh : Sizes) (tm : Terms) (tol : Float) (x : List Float) (M : ℕ) (v : Store) {e m : List Float} {o : Stepped} →
      Did sh e (step (parts sh tm tol x) M (state_at g a.round (counts_of a.counts) (held a.scalars v))) o m →
      Did sh e (step (parts sh tm tol x) M (state_of a v)) o m
  unfolding state_of
  by-stage sh tm tol x M v d = rw q d

  pub sane-at : (M : ℕ) → Sane M a → SaneAt g M a.round (counts_of a.counts)
  unfolding Sane
  sane-at M h = rw q at h

-- what is known where the record's round is to be opened
pub opening-known : (a : Paused) → a.stage ≡ Opening → (sh : Sizes) (tm : Terms) (x : List Float) (b : Bool) (v : Store) →
    KnownAt a.stage sh tm x b v → Known sh tm x b v
unfolding KnownAt
opening-known a q sh tm x b v h = rw q at h
