-- What `newphi`, `decide` and `attempt` answer: one lemma to each return. Assumes nothing.
use mathlib.Core.Path.{◌≡◌, refl, ap, subst}
use mathlib.Core.Bool.{Bool, true, false}
use mathlib.Core.List.{List}
use Prim.Native.Nat.{◌*◌}
use lib.Ieee.{Float, lt}
use Rattle.arrays.specs.Part.{part}
use Rattle.arrays.specs.Sums.{dot_of, sum_of, plus0}
use Rattle.settings.specs.declared.Terms.{Terms}
use Rattle.layout.specs.declared.Sizes.{Sizes}
use Rattle.layout.specs.declared.Places.{Places}
use Rattle.layout.specs.Slots.{Store, Has, Laid, vars, rest}
use Rattle.layout.proofs.Slots.{got, next, vars-of, rest_of}
use Rattle.layout.specs.Slots.{Slot.NEWF}
use Rattle.line_search.specs.Search.{largest_of, sumlogneg_of, phi_of, decreases}
use Rattle.lasso_optimizer.specs.declared.Scalars.{Scalars}
use Rattle.lasso_optimizer.specs.declared.Tried.{Tried}
use Rattle.lasso_optimizer.specs.declared.Tried.TheVariants.{Accept, Halve}
use Rattle.lasso_optimizer.specs.Data.{held}
use Rattle.lasso_optimizer.specs.Trial.{halved, taken_store, decide_by, moved_store, newphi_of, newz_store, try_by, tries}
use Rattle.lasso_optimizer.specs.Fit.{tried_res, tried_data, DidTry}

pub phi-is : {sh : Sizes} {l : Places} → Laid sh l → (tm : Terms) (t : Float) (m : List Float) {r zz sumu logs : Float}
    → zz ≡ dot_of sh.k (part m l.newz sh.k) (part m l.newz sh.k) → sumu ≡ sum_of sh.p (part m l.newu sh.p)
    → logs ≡ sumlogneg_of (2 * sh.p) (part m l.newf (2 * sh.p)) → r ≡ phi_of tm.lambda t zz sumu logs → r ≡ newphi_of sh tm t (vars sh m)
unfolding newphi_of
phi-is w tm t m q₁ q₂ q₃ q₄ = rw (rw w.at-newz at q₁, rw w.at-newu at q₂, rw w.at-newf at q₃) at q₄

module _ (sh : Sizes) (tm : Terms) (a : Scalars) (v : Store) {e m : List Float} where
  -- v is what the residuals leave in m, and `new` the value there
  module _ (h : Has sh e v m) {new : Float} {b : Bool} (q : new ≡ newphi_of sh tm a.t (vars sh m)) (d : b ≡ decreases new a.phi a.s a.gdx) where
    decided : (c : Bool) → b ≡ c → decreases (newphi_of sh tm a.t v) a.phi a.s a.gdx ≡ c
    decided c t = rw (← got sh h (newphi_of sh tm a.t), ← q, ← d) t

    pub accepted : b ≡ true → {m' : List Float} → Has sh (rest sh m) (taken_store (vars sh m)) m'
        → DidTry sh e (decide_by a (newphi_of sh tm a.t v) v) (Accept a) m'
    unfolding decide_by tried_res tried_data
    accepted t k = rw (decided true t) (record { is = refl; left = next sh h taken_store k })

    pub refused : b ≡ false → {r : Scalars} → r ≡ halved a → DidTry sh e (decide_by a (newphi_of sh tm a.t v) v) (Halve r) m
    unfolding decide_by tried_res tried_data
    refused t q = rw (decided false t) (record { is = ap Halve q; left = h })

  -- `most` is the largest of newf in the memory that the move leaves
  module _ {l : Places} (w : Laid sh l) (x : List Float) (h : Has sh e (moved_store sh a.s v) m) {most : Float}
      (q : most ≡ largest_of (2 * sh.p) (part m l.newf (2 * sh.p))) where
    tested : (c : Bool) → lt most plus0 ≡ c → lt (largest_of (2 * sh.p) (moved_store sh a.s v NEWF)) plus0 ≡ c
    tested c t = rw (← got sh h (λ (u : Store). largest_of (2 * sh.p) (u NEWF)), ← (rw w.at-newf at q)) t

    pub inside : lt most plus0 ≡ true → {o : Tried} {m' : List Float}
        → DidTry sh (rest sh m) (decide_by a (newphi_of sh tm a.t (newz_store sh tm x (vars sh m))) (newz_store sh tm x (vars sh m))) o m'
        → DidTry sh e (tries sh tm x (held a v)) o m'
    unfolding tries try_by
    inside t {o} {m'} k =
        let z : Store → Store = newz_store sh tm x in
        rw (tested true t)
        (subst (λ (r : List Float). DidTry sh r (decide_by a (newphi_of sh tm a.t (z (moved_store sh a.s v))) (z (moved_store sh a.s v))) o m')
        (rest_of sh h)
        (subst (λ (u : Store). DidTry sh (rest sh m) (decide_by a (newphi_of sh tm a.t (z u)) (z u)) o m') (vars-of sh h) k))

    pub outside : lt most plus0 ≡ false → {r : Scalars} → r ≡ halved a → DidTry sh e (tries sh tm x (held a v)) (Halve r) m
    unfolding tries try_by tried_res tried_data
    outside t q = rw (tested false t) (record { is = ap Halve q; left = h })
