-- Condition 3 over the optimiser's own parts: pausing changes nothing, and at each pause and end the weights are within their bounds. Assumes nothing.
use mathlib.Core.Path.{◌≡◌, sym, subst}
use mathlib.Core.List.{List, ◌∷◌}
use Prim.Native.Nat.{ℕ, ◌*◌, ◌<◌, ◌≤◌}
use lib.Dec.{T, lit≤}
use lib.Ieee.{Float}
use Rattle.numbers.specs.Kinds.{unsigned}
use Rattle.numbers.specs.Constants.{one}
use Rattle.arrays.specs.Sums.{plus0}
use Rattle.arrays.specs.Vectors.{fill_of}
use Rattle.settings.specs.declared.Terms.{Terms}
use Rattle.layout.specs.declared.Sizes.{Sizes}
use Rattle.layout.specs.Slots.{Store}
use Rattle.layout.specs.Slots.{Slot.W, Slot.U}
use Rattle.newton.specs.Newton.{start_t}
use Rattle.bound.specs.Guarded.{Guarded}
use Rattle.bound.proofs.Kept.{kept-start}
use Rattle.pause.specs.Progress.{over, Always, calls, total}
use Rattle.pause.specs.Paused.{call, start}
use Rattle.pause.specs.Bounds.{Counted, EndWithin}
use Rattle.pause.specs.Invariant.{Kept, EndKept}
use Rattle.pause.proofs.Unbroken.{paused-is-unbroken}
use Rattle.pause.proofs.Counts.{counts-at-pauses}
use Rattle.pause.proofs.Kept.{kept-at-pauses, unbroken-kept}
use Rattle.lasso_optimizer.specs.Data.{Data, held}
use Rattle.lasso_optimizer.specs.Fit.{parts, fresh, optimized}
use Rattle.pausing.specs.Kept.{KeptData}
use Rattle.pausing.proofs.Keeps.{parts-keep}

module _ (sh : Sizes) (tm : Terms) (tol : Float) (m : List Float) (M : ℕ) (v : Store) where
  abbrev first : Data
  first = held (fresh sh.p tm.lambda) v

  -- calls whose budgets add up to 5,100·M at least end as the unbroken fit
  pub pauses-change-nothing : (b : ℕ) (bs : List ℕ) → M * 5100 ≤ total (b ∷ bs)
      → calls (call (parts sh tm tol m) M) (b ∷ bs) (start (held (fresh sh.p tm.lambda) v)) ≡ over (optimized sh tm tol m M v)
  unfolding parts optimized
  pauses-change-nothing b bs enough = paused-is-unbroken (parts sh tm tol m) M (lit≤ tt) (lit≤ tt) b bs first enough

  -- at each pause as many steps are counted as were given, and each count is within its bound
  pub counts-within : (b : ℕ) (bs : List ℕ)
      → Always (Counted (parts sh tm tol m) M (total (b ∷ bs))) (EndWithin (parts sh tm tol m) M)
      (calls (call (parts sh tm tol m) M) (b ∷ bs) (start (held (fresh sh.p tm.lambda) v)))
  unfolding parts
  counts-within b bs = counts-at-pauses (parts sh tm tol m) M (lit≤ tt) (lit≤ tt) b bs first

  module _ (some : 0 < sh.p) (few : sh.p ≤ 64) (rounds : M ≤ 1000) (positive : T (unsigned tm.lambda)) (zeros : v W ≡ fill_of plus0 sh.p) (ones : v U ≡ fill_of one sh.p) where
    pub first-kept : KeptData sh.p 0 first
    unfolding fresh
    first-kept =
        subst (λ (ws : List Float). Guarded sh.p 0 (start_t sh.p tm.lambda) ws (v U)) (sym zeros)
        (subst (λ (us : List Float). Guarded sh.p 0 (start_t sh.p tm.lambda) (fill_of plus0 sh.p) us) (sym ones)
        (kept-start sh.p tm.lambda some few))

    -- each weight is finite and strictly within its finite bound, and t is finite: at every pause, and at an end before the weights are rescaled
    pub weights-within : (b : ℕ) (bs : List ℕ)
        → Always (Kept (KeptData sh.p)) (EndKept (KeptData sh.p))
        (calls (call (parts sh tm tol m) M) (b ∷ bs) (start (held (fresh sh.p tm.lambda) v)))
    weights-within b bs = kept-at-pauses (parts sh tm tol m) M (KeptData sh.p) (parts-keep sh tm m tol M rounds positive) b bs first first-kept

    pub fit-within : EndKept (KeptData sh.p) (optimized sh tm tol m M v)
    unfolding optimized parts
    fit-within = unbroken-kept (parts sh tm tol m) M (KeptData sh.p) (parts-keep sh tm m tol M rounds positive) (lit≤ tt) (lit≤ tt) first first-kept
