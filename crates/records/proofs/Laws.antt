-- What a record that passes refusal 9 gives: a step may take it, or the call ends the fit; and the machine's own records pass. Assumes nothing.
use Prim.Native.Nat.{ℕ, ◌+◌, ◌*◌, ◌<◌, ◌≤◌}
use native.Mathlib.Omega.{arith}
use mathlib.Core.Path.{◌≡◌, refl}
use mathlib.Core.Bool.{true, false, ◌&&◌, ◌||◌, false≢true, and-eq-true_iff}
use lib.Dec.{ltb, leb, eqb}
use borrow.Author.Tests.{ltb-true, leb-true, leb-false, eqb-true, lt-ltb, le-ltb, le-leb, eq-eqb}
use Rattle.pause.specs.Progress.{over, then, run}
use Rattle.pause.specs.Parts.{Parts, Counts, limit, end}
use Rattle.pause.specs.Paused.{State, opening, solving, searching, Pending, next_round, step, settle, call}
use Rattle.pause.specs.Bounds.{StageIn, Counted}
use Rattle.layout.specs.Slots.{Store}
use Rattle.lasso_optimizer.specs.Data.{Data, held}
use Rattle.records.specs.declared.Counts.{Counts as CountsE}
use Rattle.records.specs.declared.Paused.{Paused}
use Rattle.records.specs.declared.Stage.{Stage}
use Rattle.records.specs.declared.Stage.TheVariants.{Opening, Solving, Searching, Ended}
use Rattle.records.specs.Record.{counts_of, counts_back, state_at, state_of, paused_of, SaneAt, Sane}
use Rattle.records.specs.Records.{counted_of, possible_at, possible_of, spent_of, spent_at}

-- ---- the counts

record CountedIn (opened : ℕ) (c : CountsE) : Type 0 where
  opened-all : c.rounds.0 ≡ opened
  solver-in : c.solver.0 ≤ 4999 * opened
  trials-in : c.trials.0 ≤ 100 * opened

counted-in : (o : ℕ) (c : CountsE) → counted_of o c ≡ true → CountedIn o c
unfolding counted_of
counted-in o c h =
    let a = (and-eq-true_iff (eqb c.rounds.0 o && leb c.solver.0 (4999 * o)) (leb c.trials.0 (100 * o))).0 h in
    let b = (and-eq-true_iff (eqb c.rounds.0 o) (leb c.solver.0 (4999 * o))).0 a.0 in
    record { opened-all = eqb-true _ _ b.0; solver-in = leb-true _ _ b.1; trials-in = leb-true _ _ a.1 }

counted_of_lem : (o : ℕ) (c : CountsE) → CountedIn o c → counted_of o c ≡ true
unfolding counted_of
counted_of_lem o c h =
    rw (eq-eqb c.rounds.0 o h.opened-all, le-leb c.solver.0 (4999 * o) h.solver-in, le-leb c.trials.0 (100 * o) h.trials-in)

-- ---- a record that passes

sane-at : (g : Stage) (M r : ℕ) (c : CountsE) → possible_at g M r c ≡ true → spent_of g M r ≡ false → SaneAt g M r (counts_of c)
unfolding possible_at spent_of
sane-at Opening M r c h o =
    let k = counted-in r c ((and-eq-true_iff (ltb r M || (eqb M 0 && eqb r 0)) (counted_of r c)).0 h).1 in
    record { inside = leb-false M r o; opened-all = k.opened-all; solver-in = omega arith; trials-in = omega arith }
sane-at (Solving i) M r c h o =
    let a = (and-eq-true_iff (ltb r M && leb 1 i && leb i 4999) (counted_of (r + 1) c)).0 h in
    let b = (and-eq-true_iff (ltb r M && leb 1 i) (leb i 4999)).0 a.0 in
    let d = (and-eq-true_iff (ltb r M) (leb 1 i)).0 b.0 in
    let f : 1 ≤ i = leb-true 1 i d.1 in
    let k = counted-in (r + 1) c a.1 in
    record {
      inside = ltb-true r M d.0;
      first = f;
      last = leb-true i 4999 b.1;
      opened-all = k.opened-all;
      solver-in = omega arith;
      trials-in = omega arith;
    }
sane-at (Searching j) M r c h o =
    let a = (and-eq-true_iff (ltb r M && leb j 99) (counted_of (r + 1) c)).0 h in
    let b = (and-eq-true_iff (ltb r M) (leb j 99)).0 a.0 in
    let l : j ≤ 99 = leb-true j 99 b.1 in
    let k = counted-in (r + 1) c a.1 in
    record { inside = ltb-true r M b.0; last = omega arith; opened-all = k.opened-all; solver-in = omega arith; trials-in = omega arith }
sane-at Ended M r c h o = absurd (false≢true h)

spent-at : (g : Stage) (M r : ℕ) → spent_of g M r ≡ true → (g ≡ Opening) × (M ≤ r)
unfolding spent_of
spent-at Opening M r o = (refl, leb-true M r o)
spent-at (Solving k) M r o = absurd (false≢true o)
spent-at (Searching j) M r o = absurd (false≢true o)
spent-at Ended M r o = absurd (false≢true o)

module _ {X : Type 0} (F : Parts X Data) (M r : ℕ) (c : Counts) (b : ℕ) (d : Data) where
  run_at : (g : Stage) → SaneAt g M r c → call F M b (state_at g r c d) ≡ run (step F M) b (state_at g r c d)
  unfolding call settle next_round then
  run_at Opening s = rw (lt-ltb r M s.inside)
  run_at (Solving i) s = refl
  run_at (Searching j) s = refl
  run_at Ended s = absurd s

module _ (M : ℕ) (a : Paused) (passes : possible_of M a ≡ true) where
  -- a record that is not spent is one that a step may take
  pub possible-sane : spent_at M a ≡ false → Sane M a
  unfolding possible_of spent_at Sane
  possible-sane o = sane-at a.stage M a.round a.counts passes o

  -- and goes on by its steps
  pub unspent-run : {X : Type 0} (F : Parts X Data) → spent_at M a ≡ false → (b : ℕ) (v : Store) → call F M b (state_of a v) ≡ run (step F M) b (state_of a v)
  unfolding state_of Sane
  unspent-run F o b v = run_at F M a.round (counts_of a.counts) b (held a.scalars v) a.stage (possible-sane o)

-- a spent one ends as the limit, before any step
pub spent-over : {X : Type 0} (M : ℕ) (a : Paused) (F : Parts X Data) → spent_at M a ≡ true → (b : ℕ) (v : Store)
    → call F M b (state_of a v) ≡ over (end limit (counts_of a.counts) (held a.scalars v))
unfolding spent_at state_of call settle next_round then
spent-over M a F o b v = let p = spent-at a.stage M a.round o in rw (p.0, le-ltb a.round M p.1)

-- ---- the machine's own records, where its parts have the fit's limits

module _ {X : Type 0} (F : Parts X Data) (solves : F.solves ≡ 4999) (trials : F.trials ≡ 100) where
  pub own-possible : (M n : ℕ) (x : State Data) → Counted F M n x → Pending M x → possible_of M (paused_of x) ≡ true
  unfolding StageIn Pending possible_of possible_at paused_of
  own-possible M n (opening r c d) h p =
      let w = h.within in
      let s : c.solver ≤ 4999 * r = rw solves at w.solver-in in
      let t : c.trials ≤ 100 * r = rw trials at w.trials-in in
      let k : CountedIn r (counts_back c) = record { opened-all = w.opened-all; solver-in = s; trials-in = t } in
      rw (lt-ltb r M p) (counted_of_lem r (counts_back c) k)
  own-possible M n (solving r i c d) h p =
      let w = h.within in
      let l : i ≤ 4999 = rw solves at w.last in
      let s : c.solver < 4999 * r + i = rw solves at w.solver-in in
      let t : c.trials ≤ 100 * r = rw trials at w.trials-in in
      let k : CountedIn (r + 1) (counts_back c) = record { opened-all = w.opened-all; solver-in = omega arith; trials-in = omega arith } in
      rw (lt-ltb r M w.inside, le-leb 1 i w.first, le-leb i 4999 l) (counted_of_lem (r + 1) (counts_back c) k)
  own-possible M n (searching r j c d) h p =
      let w = h.within in
      let l : j < 100 = rw trials at w.last in
      let s : c.solver ≤ 4999 * (r + 1) = rw solves at w.solver-in in
      let t : c.trials ≤ 100 * r + j = rw trials at w.trials-in in
      let k : CountedIn (r + 1) (counts_back c) = record { opened-all = w.opened-all; solver-in = s; trials-in = omega arith } in
      rw (lt-ltb r M w.inside, le-leb j 99 (omega arith)) (counted_of_lem (r + 1) (counts_back c) k)
