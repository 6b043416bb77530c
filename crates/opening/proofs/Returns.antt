-- What `pcgtol` and `open` answer at each return, from what the calls before it ensure. Assumes nothing.
use mathlib.Core.Path.{◌≡◌, refl, ap, ◌∙◌}
use mathlib.Core.Bool.{true, false, not}
use mathlib.Core.List.{List}
use Prim.Native.Nat.{ℕ, ◌*◌}
use borrow.Author.Tests.{eq-eqb, ne_eqb}
use lib.Ieee.{Float, lt, le}
use Rattle.numbers.specs.Ops.{◌⊘◌}
use Rattle.arrays.specs.Part.{part}
use Rattle.arrays.specs.Sums.{norm2_of, plus0}
use Rattle.settings.specs.declared.Terms.{Terms}
use Rattle.layout.specs.declared.Sizes.{Sizes}
use Rattle.layout.specs.declared.Places.{Places}
use Rattle.layout.specs.Slots.{Store, Has, Laid, vars, rest}
use Rattle.layout.proofs.Slots.{got, next}
use Rattle.refusal.specs.declared.Failure.TheVariants.{Tolerance}
use Rattle.inner_solver.specs.Inner.{DidBegin, begin_store, bnrm_of}
use Rattle.newton.specs.Newton.{next_t, tolerance}
use Rattle.lasso_optimizer.specs.declared.Scalars.{Scalars}
use Rattle.lasso_optimizer.specs.declared.Opened.TheVariants.{Ready, Done, Failed}
use Rattle.lasso_optimizer.specs.Data.{held, opened}
use Rattle.lasso_optimizer.specs.Opening.{gap_store, gap_of, dual_of, newton_store, pcgtol_of, ready_by, open_by, opens}
use Rattle.lasso_optimizer.specs.Fit.{DidOpen, opened_res, opened_data}

module _ {sh : Sizes} {l : Places} (w : Laid sh l) (s : List Float) (r : ℕ) (a : Scalars) (gap : Float) {norm x : Float}
    (n : norm ≡ norm2_of (2 * sh.p) (part s l.grad (2 * sh.p))) where
  pub pcgtol-first : r ≡ 0 → x ≡ tolerance false gap norm → x ≡ pcgtol_of sh r a gap (vars sh s)
  unfolding pcgtol_of
  pcgtol-first z q = rw (eq-eqb r 0 z, ← w.at-grad, ← n) q

  pub pcgtol-later : (r ≡ 0 → ⊥) → x ≡ tolerance (not a.missed) gap norm → x ≡ pcgtol_of sh r a gap (vars sh s)
  unfolding pcgtol_of
  pcgtol-later z q = rw (ne_eqb r 0 z, ← w.at-grad, ← n) q

module _ (sh : Sizes) (tm : Terms) (m : List Float) (tol : Float) (r : ℕ) (a : Scalars) (v : Store) {e s₁ : List Float} {gap dual : Float}
    (is-gap : gap ≡ gap_of sh tm a.dual (gap_store sh tm m v)) (is-dual : dual ≡ dual_of sh a.dual (gap_store sh tm m v))
    (h : Has sh e (gap_store sh tm m v) s₁) where
  pub open_done : lt (gap ⊘ dual) tol ≡ true → DidOpen sh e (opens sh tm m tol r (held a v)) Done s₁
  unfolding opens open_by opened_res opened_data
  open_done c = rw (← is-gap, ← is-dual, c) (record { is = refl; left = h })

  -- the Newton part, the tolerance and the solver's first lines speak of the memory that each was given
  module _ {t x : Float} {s₂ : List Float} (is-t : t ≡ next_t sh.p a.s gap a.t) (k : Has sh (rest sh s₁) (newton_store sh tm m t (vars sh s₁)) s₂)
      (is_x : x ≡ pcgtol_of sh r a gap (vars sh s₂)) (c : lt (gap ⊘ dual) tol ≡ false) where
    newton-left : Has sh e (newton_store sh tm m t (gap_store sh tm m v)) s₂
    newton-left = next sh h (newton_store sh tm m t) k

    is-pcgtol : x ≡ pcgtol_of sh r a gap (newton_store sh tm m t (gap_store sh tm m v))
    is-pcgtol = is_x ∙ got sh newton-left (pcgtol_of sh r a gap)

    pub open-fails : le x plus0 ≡ true → DidOpen sh e (opens sh tm m tol r (held a v)) (Failed Tolerance) s₂
    unfolding opens open_by ready_by opened_res opened_data
    open-fails d = rw (← is-gap, ← is-dual, c, ← is-t, ← is-pcgtol, d) (record { is = refl; left = newton-left })

    pub open-ready : le x plus0 ≡ false → {b : Float} {s₃ : List Float} → DidBegin sh (rest sh s₂) (vars sh s₂) b s₃
        → DidOpen sh e (opens sh tm m tol r (held a v)) (Ready (opened a t dual x b)) s₃
    unfolding opens open_by ready_by opened_res opened_data
    open-ready d g =
        rw (← is-gap, ← is-dual, c, ← is-t, ← is-pcgtol, d)
        (record { is = ap (λ b. Ready (opened a t dual x b)) (g.is ∙ got sh newton-left (bnrm_of sh)); left = next sh newton-left (begin_store sh) g.left })
