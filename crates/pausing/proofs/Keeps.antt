-- The parts keep the weights within their bounds. Assumes nothing.
use mathlib.Core.Path.{◌≡◌, refl, sym, subst}
use mathlib.Core.Bool.{Bool, true, false, cond}
use mathlib.Core.List.{List}
use Prim.Native.Nat.{ℕ, ◌+◌, ◌*◌, ◌<◌, ◌≤◌}
use native.Mathlib.Omega.{arith}
use lib.Dec.{T, eqb}
use lib.ListN.{length}
use lib.Ieee.{Float, lt, le}
use Rattle.numbers.specs.Kinds.{unsigned}
use Rattle.numbers.specs.Ops.{◌⊘◌}
use Rattle.arrays.specs.Sums.{plus0, dot_of}
use Rattle.arrays.proofs.Lengths.{length-zip}
use Rattle.settings.specs.declared.Terms.{Terms}
use Rattle.layout.specs.declared.Sizes.{Sizes}
use Rattle.layout.specs.Store.{upd}
use Rattle.layout.specs.Slots.{Store, ◌⟨◌≔◌⟩}
use Rattle.layout.specs.Slots.{Slot.W, Slot.U, Slot.NEWW, Slot.NEWU, Slot.NEWF, Slot.NEWZ}
use Rattle.newton.specs.Newton.{next_t}
use Rattle.line_search.specs.Search.{faces_of, largest_of, decreases}
use Rattle.bound.specs.Guarded.{Guarded}
use Rattle.bound.proofs.Kept.{kept-round, kept-later, kept-accept}
use Rattle.inner_solver.specs.Inner.{turn_store}
use Rattle.pause.specs.Invariant.{OfOpened, OfTurned, OfTried, Keeps}
use Rattle.lasso_optimizer.specs.declared.Scalars.{Scalars}
use Rattle.lasso_optimizer.specs.Data.{Data, held}
use Rattle.lasso_optimizer.specs.Opening.{gap_store, gap_of, dual_of, newton_store, pcgtol_of, ready_by, open_by, opens}
use Rattle.lasso_optimizer.specs.Solving.{turn_to, turns, aim_by, aim}
use Rattle.lasso_optimizer.specs.Trial.{moved_store, newz_store, newphi_of, taken_store, decide_by, try_by, tries}
use Rattle.lasso_optimizer.specs.Fit.{parts}
use Rattle.pausing.specs.Kept.{KeptData}
use Rattle.pausing.proofs.Untouched.{kept_by, begin-keeps, turn-keeps, moved_keeps, gap-keeps, newton-keeps, newz-keeps}

-- a choice keeps what both ways keep
pub chosen : {A : Type 0} (P : A → Type 0) (b : Bool) {x y : A} → P x → P y → P (cond b x y)
chosen P true p q = p
chosen P false p q = q

-- the same with the test known in each
tested : {A : Type 0} (P : A → Type 0) (b : Bool) {x y : A} → (b ≡ true → P x) → P y → P (cond b x y)
tested P true p q = p refl
tested P false p q = q

module _ (sh : Sizes) (tm : Terms) (m : List Float) where
  abbrev Good : ℕ → Data → Type 0
  Good = KeptData sh.p

  module _ (tol : Float) (n : ℕ) (a : Scalars) (few : n < 1006) where
    ready-keeps : (t dual pcg : Float) (v : Store) → Guarded sh.p (n + 1) t (v W) (v U) → OfOpened (Good (n + 1)) (ready_by sh a t dual pcg v)
    unfolding ready_by
    ready-keeps t dual pcg v k = chosen (OfOpened (Good (n + 1))) (le pcg plus0) k (kept_by (begin-keeps sh v) k)

    open-keeps : (r : ℕ) (gap dual : Float) (v : Store) → Guarded sh.p n a.t (v W) (v U) → OfOpened (Good (n + 1)) (open_by sh tm m tol r a gap dual v)
    unfolding open_by
    open-keeps r gap dual v k =
        let t = next_t sh.p a.s gap a.t in
        let u = newton_store sh tm m t v in
        chosen (OfOpened (Good (n + 1))) (lt (gap ⊘ dual) tol) (kept-later sh.p n a.t (v W) (v U) k)
        (ready-keeps t dual (pcgtol_of sh r a gap u) u (kept_by (newton-keeps sh tm m t v) (kept-round sh.p n a.s gap a.t (v W) (v U) few k)))

  opens-keep : (tol : Float) (n : ℕ) (d : Data) → n < 1006 → Good n d → OfOpened (Good (n + 1)) (opens sh tm m tol n d)
  unfolding opens
  opens-keep tol n (held a v) few k =
      let u = gap_store sh tm m v in
      open-keeps tol n a few n (gap_of sh tm a.dual u) (dual_of sh a.dual u) u (kept_by (gap-keeps sh tm m v) k)

  turn-to : (n : ℕ) (a : Scalars) (error bkden : Float) (v : Store) → Guarded sh.p n a.t (v W) (v U) → OfTurned (Good n) (turn_to a error bkden v)
  unfolding turn_to
  turn-to n a error bkden v k = chosen (OfTurned (Good n)) (le error a.pcgtol) k k

  turns-keep : (n k : ℕ) (d : Data) → Good n d → OfTurned (Good n) (turns sh k d)
  unfolding turns
  turns-keep n k (held a v) g = turn-to n a _ _ (turn_store sh (eqb k 1) a.bkden v) (kept_by (turn-keeps sh (eqb k 1) a.bkden v) g)

  aim-keeps : (n : ℕ) (d : Data) → Good n d → Good n (aim sh tm d)
  unfolding aim aim_by
  aim-keeps n (held a v) g = g

  -- what an accepted trial's vectors are
  record Moved (v : Store) : Type 0 where
    pub columns : length (v NEWW) ≡ sh.p
    pub bounds : length (v NEWU) ≡ sh.p
    pub faces : v NEWF ≡ faces_of sh.p (v NEWW) (v NEWU)

  moved-is : (s : Float) (v : Store) → Moved (moved_store sh s v)
  unfolding moved_store ◌⟨◌≔◌⟩ upd
  moved-is s v = record { columns = length-zip _ sh.p (v W) _; bounds = length-zip _ sh.p (v U) _; faces = refl }

  newz-moved : (v : Store) → Moved v → Moved (newz_store sh tm m v)
  unfolding newz_store ◌⟨◌≔◌⟩ upd
  newz-moved v k = record { columns = k.columns; bounds = k.bounds; faces = k.faces }

  newz-faces : (v : Store) → newz_store sh tm m v NEWF ≡ v NEWF
  unfolding newz_store ◌⟨◌≔◌⟩ upd
  newz-faces v = refl

  taken-kept : {p n : ℕ} {t : Float} (v : Store) → Guarded p n t (v NEWW) (v NEWU) → Guarded p n t (taken_store v W) (taken_store v U)
  unfolding taken_store ◌⟨◌≔◌⟩ upd
  taken-kept v k = k

  module _ (n : ℕ) (a : Scalars) (L : T (unsigned tm.lambda)) where
    -- both tests of an accepted trial
    taken : (v : Store) → Moved v → Guarded sh.p n a.t (v W) (v U) → lt (largest_of (2 * sh.p) (v NEWF)) plus0 ≡ true
        → decreases (newphi_of sh tm a.t v) a.phi a.s a.gdx ≡ true → Guarded sh.p n a.t (taken_store v W) (taken_store v U)
    unfolding newphi_of
    taken v k g below less =
        taken-kept v
        (kept-accept sh.p n tm.lambda a.t (dot_of sh.k (v NEWZ) (v NEWZ)) a.phi a.s a.gdx (v NEWW) (v NEWU) k.columns k.bounds L
        g.barrier (rw k.faces at below) (rw k.faces at less))

    decide-keeps : (v : Store) → Moved v → Guarded sh.p n a.t (v W) (v U) → lt (largest_of (2 * sh.p) (v NEWF)) plus0 ≡ true
        → OfTried (Good n) (decide_by a (newphi_of sh tm a.t v) v)
    unfolding decide_by
    decide-keeps v k g below =
        tested (OfTried (Good n)) (decreases (newphi_of sh tm a.t v) a.phi a.s a.gdx) (λ less. taken v k g below less) g

    try-keeps : (v : Store) → Moved v → Guarded sh.p n a.t (v W) (v U) → OfTried (Good n) (try_by sh tm m a (largest_of (2 * sh.p) (v NEWF)) v)
    unfolding try_by
    try-keeps v k g =
        tested (OfTried (Good n)) (lt (largest_of (2 * sh.p) (v NEWF)) plus0)
        (λ below.
        decide-keeps (newz_store sh tm m v) (newz-moved v k) (kept_by (newz-keeps sh tm m v) g)
        (subst (λ (f : List Float). lt (largest_of (2 * sh.p) f) plus0 ≡ true) (sym (newz-faces v)) below))
        g

  tries-keep : T (unsigned tm.lambda) → (n : ℕ) (d : Data) → Good n d → OfTried (Good n) (tries sh tm m d)
  unfolding tries
  tries-keep L n (held a v) g = try-keeps n a L (moved_store sh a.s v) (moved-is a.s v) (kept_by (moved_keeps sh a.s v) g)

  pub parts-keep : (tol : Float) (M : ℕ) → M ≤ 1000 → T (unsigned tm.lambda) → Keeps Good (parts sh tm tol m) M
  unfolding parts
  parts-keep tol M few L = record {
    by-opens = λ n d l g. opens-keep tol n d (omega arith) g;
    by-turns = turns-keep;
    by-aim = aim-keeps;
    by-tries = tries-keep L;
  }
