-- A state is what its record and store say, and a record that is not ended what its state says. Assumes nothing.
use Prim.Native.Nat.{ℕ}
use mathlib.Core.Path.{◌≡◌, refl}
use Rattle.pause.specs.Parts.{Counts}
use Rattle.pause.specs.Paused.{State, opening, solving, searching, data_of}
use Rattle.layout.specs.Slots.{Store}
use Rattle.lasso_optimizer.specs.declared.Scalars.{Scalars}
use Rattle.lasso_optimizer.specs.Data.{Data, held, store_of}
use Rattle.records.specs.declared.Paused.{Paused}
use Rattle.records.specs.declared.Stage.{Stage}
use Rattle.records.specs.declared.Stage.TheVariants.{Opening, Solving, Searching, Ended}
use Rattle.records.specs.Record.{counts_of, paused_at, paused_of, state_at, state_of, SaneAt, Sane}

pub state-back : (x : State Data) → state_of (paused_of x) (store_of (data_of x)) ≡ x
unfolding state_of paused_of data_of
state-back (opening r c (held a v)) = refl
state-back (solving r k c (held a v)) = refl
state-back (searching r j c (held a v)) = refl

paused-at : (g : Stage) (M r : ℕ) (c : Counts) (a : Scalars) (v : Store) → SaneAt g M r c → paused_of (state_at g r c (held a v)) ≡ paused_at g r c a
unfolding paused_of
paused-at Opening M r c a v h = refl
paused-at (Solving k) M r c a v h = refl
paused-at (Searching j) M r c a v h = refl
paused-at Ended M r c a v h = absurd h

pub paused-back : (M : ℕ) (a : Paused) (v : Store) → Sane M a → paused_of (state_of a v) ≡ a
unfolding state_of Sane
paused-back M a v h = paused-at a.stage M a.round (counts_of a.counts) a.scalars v h

store_at : (g : Stage) (r : ℕ) (c : Counts) (a : Scalars) (v : Store) → store_of (data_of (state_at g r c (held a v))) ≡ v
unfolding data_of
store_at Opening r c a v = refl
store_at (Solving k) r c a v = refl
store_at (Searching j) r c a v = refl
store_at Ended r c a v = refl

pub store-back : (a : Paused) (v : Store) → store_of (data_of (state_of a v)) ≡ v
unfolding state_of
store-back a v = store_at a.stage a.round (counts_of a.counts) a.scalars v
