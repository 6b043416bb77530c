-- One call over words is one call of `start` or `resume`, and the words that it leaves are read as the record that it leaves. Assumes nothing.
use Rattle.std.specs.Prelude.{Result, ⊤, Ok, Err}
use Prim.Native.Nat.{ℕ}
use native.Mathlib.Omega.{arith}
use mathlib.Core.Path.{◌≡◌, refl, ap, sym, ◌∙◌}
use mathlib.Core.Bool.{Bool, true, false, ◌&&◌, cond}
use mathlib.Core.List.{List, []}
use lib.Dec.{eqb}
use lib.ListN.{length}
use lib.Ieee.{Float}
use borrow.Author.Tests.{eq-eqb, eqb-true}
use Rattle.refusal.specs.declared.Refusal.{Refusal}
use Rattle.refusal.specs.declared.Refusal.TheVariants.{Size, Length}
use Rattle.refusal.specs.Sizes.{in_size}
use Rattle.refusal.proofs.Asking.{both_true}
use Rattle.refusal.proofs.Numbers.{not-0}
use Rattle.settings.specs.declared.Settings.{Settings}
use Rattle.layout.specs.Slots.{vars}
use Rattle.layout.specs.Need.{sizes_of}
use Rattle.records.specs.declared.Paused.{Paused}
use Rattle.stages.specs.Stage.{how_of}
use Rattle.records.specs.Records.{spent_at}
use Rattle.records.proofs.Laws.{spent-over}
use Rattle.elastic_net.specs.declared.Answer.{Answer}
use Rattle.elastic_net.specs.declared.Resumed.{Resumed}
use Rattle.elastic_net.specs.ElasticNet.{Said, pending, converged, limit, refused, said, Outcome, outcome, end_outcome, ending, shown, resume_of, StartOutcome, start_outcome, start_of}
use Rattle.promises.specs.Chain.{Starts, Resumes}
use Rattle.promises.specs.Refused.{resume_check, Unchanged}
use Rattle.promises.proofs.Refused.{resume-refused, resume-accepted}
use Rattle.promises.proofs.Calls.{parts_of}
use Rattle.promises.proofs.Corners.{budget-0}
use Rattle.c_values.specs.Values.{word}
use Rattle.c_values.specs.Settings.{settings-words, settings_from}
use Rattle.c_words.specs.Words.{paused_from, paused_words}
use Rattle.c_words.proofs.Words.{read_fits}
use Rattle.c_answers.specs.Answers.{kind_of, answer_words, keeps}
use Rattle.c_answers.specs.Called.{called, unread}
use Rattle.c_api.specs.Calls.{StartCall, ResumeCall, start_words, started_as, resume_words, resumed_as}
use Rattle.c_promises.proofs.Fits.{allowed, start-again, resume-again}
use Rattle.c_promises.proofs.Answers.{starting, resuming}

-- ---- a pending call with budget 0 leaves record, weights and scratch as they were, whatever record that is

module _ (n p : ℕ) (x y : List Float) (st : Settings) (a : Paused) (s w : List Float) (r : Resumed) (w' s' : List Float)
    (c : Resumes n p x y st a s w 0 r w' s') (pend : said r.answer ≡ pending) where
  pending-0 : (r.paused ≡ a) × (w' ≡ w) × (s' ≡ s)
  unfolding shown ending end_outcome how_of
  pending-0 = go (resume_check n p x y st a s w) refl where
    told : {g : Answer} → Unchanged a s w r w' s' g → (r.paused ≡ a) × (w' ≡ w) × (s' ≡ s)
    told u = (u.paused, u.weights, u.scratch)

    run : (o : Bool) → resume_check n p x y st a s w ≡ Ok tt → spent_at st.max_iter a ≡ o → (r.paused ≡ a) × (w' ≡ w) × (s' ≡ s)
    run true e o =
        let i = rw (spent-over st.max_iter a (parts_of n p x st) o 0 (vars (sizes_of n p st) s)) at (resume-accepted n p x y st a s w 0 r w' s' c e) in
        let j = ap (λ (t : Outcome). t.answer) i in
        let z : ◌≡◌ {A = ℕ} 0 1 = cc in
        absurd (omega arith)
    run false e o = let k = allowed n p x y st a s w e in told (budget-0 n p x y st a s w r w' s' c k.limits k.passes o)

    go : (k : Result ⊤ Refusal) → resume_check n p x y st a s w ≡ k → (r.paused ≡ a) × (w' ≡ w) × (s' ≡ s)
    go (Err q) e = told (resume-refused n p x y st a s w 0 r w' s' c q e)
    go (Ok tt) e = run (spent_at st.max_iter a) e refl

-- ---- what the words say

kind-pending : (t : Said) → kind_of t ≡ 0 → t ≡ pending
kind-pending pending h = refl
kind-pending (converged b c) h = absurd (omega arith)
kind-pending (limit b c) h = absurd (omega arith)
kind-pending (refused k i) h = absurd (omega arith)

long-record : (a : Paused) → length (paused_words a) ≡ 16
unfolding paused_words
long-record a = refl

-- ---- a start that returns 0

module _ (n p : ℕ) (x y : List Float) (sw pw : List ℕ) (s : List Float) (aw pw' aw' : List ℕ) (s' : List Float) (c : StartCall n p x y sw pw s aw 0 pw' aw' s') where
  -- the settings had their words, and the record that it made is what its words say
  pub record Began : Type 0 where
    pub settings : length sw ≡ settings-words
    pub paused : Paused
    pub starts : Starts n p x y (settings_from sw) s (Ok paused) s'
    pub back : paused_from pw' ≡ paused
    pub long : length pw' ≡ 16

  record Due : Type 0 where
    settings : length sw ≡ settings-words
    is : called 0 pw' aw' [] s' ≡ started_as pw (start_of n p x y (settings_from sw) s)

  due : Due
  unfolding start_words unread
  due = go (eqb (length sw) settings-words && eqb (length pw) 16 && eqb (length aw) 7) refl where
    go : (b : Bool) → (eqb (length sw) settings-words && eqb (length pw) 16 && eqb (length aw) 7) ≡ b → Due
    go true q =
        let (l, r) = both_true (eqb (length sw) settings-words && eqb (length pw) 16) (eqb (length aw) 7) q in
        record { settings = eqb-true _ _ (both_true (eqb (length sw) settings-words) (eqb (length pw) 16) l).0; is = rw q at c }
    go false q =
        let d = rw q at c in
        absurd (not-0 (cond (in_size n p) Length Size) (cc))

  module _ (o : StartOutcome) (is : called 0 pw' aw' [] s' ≡ started_as pw o) (s₂ : List Float) where
    ready_words : (a : Paused) → start_outcome (Ok a) s₂ ≡ o → (pw' ≡ paused_words a) × (s' ≡ s₂)
    unfolding started_as
    ready_words a e = let d = rw (← e) at is in (cc, cc)

    not-refused : (r : Refusal) → start_outcome (Err r) s₂ ≡ o → ⊥
    unfolding started_as
    not-refused r e = let d = rw (← e) at is in not-0 r (cc)

  pub began : Began
  began = go (starting n p x y (settings_from sw) s).result refl where
    o : StartOutcome
    o = start_of n p x y (settings_from sw) s

    go : (t : Result Paused Refusal) → (starting n p x y (settings_from sw) s).result ≡ t → Began
    go (Ok a) e =
        let k : start_outcome (Ok a) o.scratch ≡ o = rw e at (starting n p x y (settings_from sw) s).allowed in
        let (hp, hs) = ready_words o due.is o.scratch a k in
        let h : Starts n p x y (settings_from sw) s (Ok a) s' = rw hs k in
        record {
          settings = due.settings;
          paused = a;
          starts = h;
          back = rw hp (start-again n p x y (settings_from sw) s s' a h);
          long = rw hp (long-record a);
        }
    go (Err r) e = absurd (not-refused o due.is o.scratch r (rw e at (starting n p x y (settings_from sw) s).allowed))

-- ---- a resuming call

module _ (n p : ℕ) (x y : List Float) (sw pw : List ℕ) (s : List Float) (aw : List ℕ) (ls : length sw ≡ settings-words) (lp : length pw ≡ 16) (la : length aw ≡ 7)
    (w : List Float) (b r : ℕ) (pw' aw' : List ℕ) (w' s' : List Float) (c : ResumeCall n p x y sw pw s w b aw r pw' aw' w' s') where
  -- the call of `resume` that it makes
  pub record Went : Type 0 where
    pub result : Resumed
    pub resumes : Resumes n p x y (settings_from sw) (paused_from pw) s w b result w' s'
    pub says : called r pw' aw' w' s' ≡ resumed_as pw b (outcome result w' s')

  resume-due : called r pw' aw' w' s' ≡ resumed_as pw b (resume_of n p x y (settings_from sw) (paused_from pw) s w b)
  unfolding resume_words
  resume-due = rw (eq-eqb (length sw) settings-words ls, eq-eqb (length pw) 16 lp, eq-eqb (length aw) 7 la) at c

  left_as : (o : Outcome) → called r pw' aw' w' s' ≡ resumed_as pw b o → (w' ≡ o.weights) × (s' ≡ o.scratch)
  unfolding resumed_as
  left_as o q = (cc, cc)

  pub went : Went
  went =
      let o = resume_of n p x y (settings_from sw) (paused_from pw) s w b in
      let k = resuming n p x y (settings_from sw) (paused_from pw) s w b in
      let (hw, hs) = left_as o resume-due in
      let h : outcome k.result w' s' ≡ o = rw (hw, hs) k.allowed in
      record { result = k.result; resumes = h; says = resume-due ∙ ap (resumed_as pw b) (sym h) }

  module _ (g : Went) where
    words_are : (pw' ≡ cond (keeps (said g.result.answer) b) pw (paused_words g.result.paused))
        × (aw' ≡ answer_words (said g.result.answer) g.result.paused.counts)
    unfolding resumed_as
    words_are = let q = g.says in (cc, cc)

    -- the answer's first word tells whether it is pending
    pub word-pending : word aw' 0 ≡ 0 → said g.result.answer ≡ pending
    unfolding answer_words
    word-pending h = kind-pending (said g.result.answer) (rw words_are.1 at h)

    pub pending-word : said g.result.answer ≡ pending → word aw' 0 ≡ 0
    unfolding answer_words
    pending-word h = rw (words_are.1, h)

    -- and where it is, the record's words are read as the record
    pub record Reads : Type 0 where
      pub back : paused_from pw' ≡ g.result.paused
      pub long : length pw' ≡ 16

    pub pending-reads : said g.result.answer ≡ pending → Reads
    pending-reads h = go (eqb b 0) refl where
      go : (k : Bool) → eqb b 0 ≡ k → Reads
      go true e =
          let same : pw' ≡ pw = rw (h, e) at words_are.0 in
          let none : b ≡ 0 = eqb-true b 0 e in
          let still = pending-0 n p x y (settings_from sw) (paused_from pw) s w g.result w' s' (rw none at g.resumes) h in
          record { back = rw same (sym still.0); long = rw same lp }
      go false e =
          let new : pw' ≡ paused_words g.result.paused = rw (h, e) at words_are.0 in
          let again = resume-again n p x y (settings_from sw) (paused_from pw) s w b g.result w' s' g.resumes (read_fits pw) in
          record { back = rw new again; long = rw new (long-record g.result.paused) }

-- BUDGET 0 OVER WORDS: a pending call leaves the record's words, the weights and the scratch as they were, whatever they are
pub words-budget-0 : (n p : ℕ) (x y : List Float) (sw pw : List ℕ) (s : List Float) (aw : List ℕ) → length sw ≡ settings-words → length pw ≡ 16 → length aw ≡ 7
    → (w : List Float) (r : ℕ) (pw' aw' : List ℕ) (w' s' : List Float) → ResumeCall n p x y sw pw s w 0 aw r pw' aw' w' s' → word aw' 0 ≡ 0
    → (pw' ≡ pw) × (w' ≡ w) × (s' ≡ s)
words-budget-0 n p x y sw pw s aw ls lp la w r pw' aw' w' s' c q =
    let g = went n p x y sw pw s aw ls lp la w 0 r pw' aw' w' s' c in
    let h = word-pending n p x y sw pw s aw ls lp la w 0 r pw' aw' w' s' c g q in
    let still = pending-0 n p x y (settings_from sw) (paused_from pw) s w g.result w' s' g.resumes h in
    (rw h at (words_are n p x y sw pw s aw ls lp la w 0 r pw' aw' w' s' c g).0, still.1, still.2)
