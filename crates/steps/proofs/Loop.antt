-- What the loop over a budget keeps. Assumes nothing.
use Rattle.refusal.specs.declared.Way.{Way}
use Rattle.std.specs.Prelude.{Result}
use Prim.Native.Nat.{ℕ, zero, suc, ◌-◌, ◌<◌, ◌≤◌}
use native.Mathlib.Omega.{arith}
use mathlib.Core.Path.{◌≡◌, refl, ap, sym, ◌∙◌}
use mathlib.Core.Bool.{Bool}
use mathlib.Core.List.{List}
use lib.Dec.{lit<, lit≤}
use lib.ListN.{length}
use lib.Ieee.{Float}
use Rattle.refusal.specs.declared.Failure.{Failure}
use Rattle.pause.specs.Progress.{Progress, over, going, then, run, Always, Any}
use Rattle.pause.specs.Parts.{Counts, round+, solver+, trial+, End, end}
use Rattle.pause.specs.Paused.{State, data_of, step}
use Rattle.pause.proofs.Cases.{Cases, step-cases}
use Rattle.settings.specs.declared.Terms.{Terms}
use Rattle.layout.specs.declared.Sizes.{Sizes}
use Rattle.layout.specs.declared.Places.{Places}
use Rattle.layout.specs.Slots.{Room, Store, Has, vars, rest, words}
use Rattle.layout.proofs.Slots.{start, vars-of, rest_of}
use Rattle.lasso_optimizer.specs.Data.{Data, held, store_of}
use Rattle.lasso_optimizer.specs.Fit.{parts}
use Rattle.records.specs.declared.Paused.{Paused}
use Rattle.records.specs.declared.Counts.{Counts as CountsE}
use Rattle.records.specs.declared.Stage.{Stage}
use Rattle.records.specs.declared.Stage.TheVariants.{Opening, Solving, Searching, Ended}
use Rattle.stages.specs.declared.Stepped.{Stepped}
use Rattle.stages.specs.declared.Stepped.TheVariants.{Going, Over}
use Rattle.records.specs.Record.{counts_of, paused_of, state_of, state_at, Sane, SaneAt}
use Rattle.stages.specs.Stage.{Did, answer, left_data}
use Rattle.records.proofs.Back.{state-back, paused-back, store-back}
use Rattle.steps.specs.Known.{KnownAt, searched_of}
use Rattle.steps.proofs.Known.{KnownAfter, step-known}

sub-one : (n : ℕ) → suc n - 1 ≡ n
sub-one n = omega arith

going-not-over : {a : Paused} {w : Result Way Failure} {c : CountsE} → Going a ≡ Over w c → ⊥
going-not-over q = let z : ◌≡◌ {A = ℕ} 0 1 = cc in omega arith

not-over : (x : End Failure Data) (a : Paused) → Going a ≡ answer (over x) → ⊥
unfolding answer
not-over (end h c d) a q = going-not-over q

abbrev SaneState : ℕ → State Data → Type 0
SaneState M x = Sane M (paused_of x)

module _ (sh : Sizes) (tm : Terms) (tol : Float) (x : List Float) (M : ℕ) where
  abbrev one : State Data → Progress (End Failure Data) (State Data)
  one = step (parts sh tm tol x) M

  sane-at-cases : (g : Stage) (r : ℕ) (c : Counts) (d : Data) → SaneAt g M r c → Cases (parts sh tm tol x) M (SaneState M) Any (state_at g r c d)
  unfolding paused_of Sane round+ solver+ trial+ parts
  sane-at-cases Opening r c d h =
      record {
        on-ready = λ t q. record { inside = h.inside; first = lit≤ tt; last = lit≤ tt; opened-all = omega arith; solver-in = omega arith; trials-in = omega arith };
        on-done = λ t q. tt;
        on-fails = λ x t q. tt;
      }
  sane-at-cases (Solving k) r c d h =
      record {
        on-more = λ t q l.
            record { inside = h.inside; first = omega arith; last = omega arith; opened-all = h.opened-all; solver-in = omega arith; trials-in = h.trials-in };
        on-last = λ t q l. record { inside = h.inside; last = lit< tt; opened-all = h.opened-all; solver-in = omega arith; trials-in = omega arith };
        on-stop = λ t q. record { inside = h.inside; last = lit< tt; opened-all = h.opened-all; solver-in = omega arith; trials-in = omega arith };
      }
  sane-at-cases (Searching j) r c d h =
      record {
        on-accept = λ t q l. record { inside = l; opened-all = h.opened-all; solver-in = omega arith; trials-in = omega arith };
        on-limit = λ t q l. tt;
        on-halve = λ t q l. record { inside = h.inside; last = l; opened-all = h.opened-all; solver-in = h.solver-in; trials-in = omega arith };
        on-spent = λ t q l. tt;
      }
  sane-at-cases Ended r c d h = absurd h

  -- each step leaves a record that the next may take
  step-sane : (a : Paused) (v : Store) → Sane M a → Always (SaneState M) Any (one (state_of a v))
  unfolding state_of Sane
  step-sane a v h =
      step-cases (parts sh tm tol x) M (SaneState M) Any (state_of a v) (sane-at-cases a.stage a.round (counts_of a.counts) (held a.scalars v) h)

  run-going : (n : ℕ) (y z : State Data) → one y ≡ going z → 0 < n → run one n y ≡ run one (n - 1) z
  unfolding run then
  run-going zero y z q h = absurd (omega arith)
  run-going (suc n) y z q h = rw (q, sub-one n)

  run-over : (n : ℕ) (y : State Data) (e : End Failure Data) → one y ≡ over e → 0 < n → run one n y ≡ over e
  unfolding run then
  run-over zero y e q h = absurd (omega arith)
  run-over (suc n) y e q h = rw q

  module _ (budget : ℕ) (rec₀ : Paused) (m₀ : List Float) where
    abbrev whole : Progress (End Failure Data) (State Data)
    whole = run (step (parts sh tm tol x) M) budget (state_of rec₀ (vars sh m₀))

    -- `left` steps from here are the whole budget's from the start; where `known` says so, the next opening finds its residuals in newz
    pub record Running (left : ℕ) (known : Bool) (cur : Paused) (m : List Float) : Type 0 where
      pub same : run (step (parts sh tm tol x) M) left (state_of cur (vars sh m)) ≡ whole
      pub excess : rest sh m ≡ rest sh m₀
      pub long : length m ≡ length m₀
      pub sane : Sane M cur
      pub newz : KnownAt cur.stage sh tm x known (vars sh m)

    pub went_on : (left : ℕ) {b b' : Bool} (cur nxt : Paused) (m m' : List Float) → 0 < left → Running left b cur m → length m' ≡ length m →
        {o : Stepped} → o ≡ Going nxt → b' ≡ searched_of cur.stage → Did sh (rest sh m) (step (parts sh tm tol x) M (state_of cur (vars sh m))) o m' →
        Running (left - 1) b' nxt m'
    unfolding answer left_data
    went_on left {b' = b'} cur nxt m m' h g l {o} q t d = go (one (state_of cur (vars sh m))) refl
      where
        go : (p : Progress (End Failure Data) (State Data)) → one (state_of cur (vars sh m)) ≡ p → Running (left - 1) b' nxt m'
        go (over e) y = absurd (not-over e nxt (sym q ∙ rw y at d.is))
        go (going z) y =
            let after : Sane M (paused_of z) = rw y at (step-sane cur (vars sh m) g.sane) in
            let known : KnownAfter sh tm x tol M cur.stage z = rw y at (step-known sh tm x tol M cur (vars sh m)) in
            let is : Going nxt ≡ Going (paused_of z) = sym q ∙ rw y at d.is in
            let p : nxt ≡ paused_of z = cc in
            let k : Has sh (rest sh m) (store_of (data_of z)) m' = rw y at d.left in
            record {
              same = rw (p, vars-of sh k, state-back z) (sym (run-going left (state_of cur (vars sh m)) z y h) ∙ g.same);
              excess = rest_of sh k ∙ g.excess;
              long = l ∙ g.long;
              sane = rw p after;
              newz = rw (p, vars-of sh k, t) known;
            }

    pub stopped : (left : ℕ) {b : Bool} (cur : Paused) (m m' : List Float) → 0 < left → Running left b cur m → {o : Stepped} {w : Result Way Failure} {c : CountsE} → o ≡ Over w c →
        Did sh (rest sh m) (step (parts sh tm tol x) M (state_of cur (vars sh m))) o m' → Did sh (rest sh m₀) whole o m'
    unfolding answer
    stopped left cur m m' h g {o} q d = go (one (state_of cur (vars sh m))) refl
      where
        go : (p : Progress (End Failure Data) (State Data)) → one (state_of cur (vars sh m)) ≡ p → Did sh (rest sh m₀) whole o m'
        go (over e) y = rw (sym g.same ∙ (run-over left (state_of cur (vars sh m)) e y h ∙ sym y), sym g.excess) d
        go (going z) y = absurd (going-not-over (sym (rw y at d.is) ∙ q))

    pub spent : (left : ℕ) {b : Bool} (cur : Paused) (m : List Float) → left ≤ 0 → Running left b cur m → {l : Places} → Room sh l m → Did sh (rest sh m₀) whole (Going cur) m
    unfolding run answer left_data words
    spent zero cur m h g l =
        rw (sym g.same, sym g.excess)
        (record { is = ap Going (sym (paused-back M cur (vars sh m) g.sane)); left = rw store-back (start sh m l.room) })
    spent (suc n) cur m h g l = absurd (omega arith)
